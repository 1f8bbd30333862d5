-- The numbers below n, counted up.
use Rattle.std.proofs.Common.{◌≡◌, ℕ, zero, suc, ◌+◌, ◌<◌, ◌≤◌, inl, inr, get_or, [], ◌∷◌, ◌++◌, length, arith, refl, ap, ◌∙◌}
use Rattle.std.proofs.lemmas.Bool.{cases_lt}
use Rattle.std.proofs.lemmas.List.{get_or_append_left, get_or-append-add, length-append}
use Rattle.ve_formats.specs.Lines.{numbers_below}

pub length-numbers_below : (n : ℕ) → length (numbers_below n) ≡ n
unfolding numbers_below
length-numbers_below zero = refl
length-numbers_below (suc n) = length-append (numbers_below n) (n ∷ []) ∙ omega (arith, length-numbers_below n)

pub number_at : (n at : ℕ) → at < n → get_or (numbers_below n) at 0 ≡ at
unfolding numbers_below
number_at zero at less = absurd (omega arith)
number_at (suc n) at less = elim (cases_lt at n) [ inl below ↦ get_or_append_left (numbers_below n) (n ∷ []) 0 at (omega (arith, length-numbers_below n, below)) ∙ number_at n at below | inr above ↦ last above ]
  where
    last : n ≤ at → get_or (numbers_below n ++ n ∷ []) at 0 ≡ at
    last above =
        let place : at ≡ length (numbers_below n) + 0 = omega (arith, length-numbers_below n) in
        ap (λ k. get_or (numbers_below n ++ n ∷ []) k 0) place ∙ get_or-append-add (numbers_below n) (n ∷ []) 0 0 ∙ omega arith
