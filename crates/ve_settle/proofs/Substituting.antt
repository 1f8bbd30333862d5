-- A vector with each id replaced by what stands for it, term by term.
use Rattle.std.proofs.Common.{◌≡◌, ℕ, [], ◌∷◌, ◌++◌, sym, ap, ◌∙◌, append_assoc, append-nil, arith}
use Rattle.ve_theory.specs.Combinations.{scaled, extended}
use Rattle.ve_theory.specs.Answers.{Row}
use Rattle.ve_theory.proofs.Sums.{weigh-append, SameWeights, SameWeights-refl, SameWeights-sym, SameWeights-trans, SameWeights-append, SameWeights_of, extended-append}
use Rattle.ve_theory.proofs.DerivedElements.{SameWeights-equal}

-- a combination of f, one term longer
module _ (p : ℕ) (f : ℕ → Row) (part next : Row) (i a : ℕ) (next_is : next ≡ part ++ (i, a) ∷ []) where
  longer : SameWeights p (extended f part ++ scaled a (f i)) (extended f next)
  unfolding extended
  longer =
      SameWeights-trans (SameWeights_of (ap (λ w. extended f part ++ w) (sym (append-nil (scaled a (f i))))))
      (SameWeights-sym (SameWeights_of (ap (extended f) next_is ∙ extended-append f part ((i, a) ∷ []))))

  -- the term is added on the right, or on the left
  pub right_more : (left right new by : Row) → f i ≡ by → SameWeights p (left ++ right) (extended f part) → SameWeights p new (right ++ scaled a by) → SameWeights p (left ++ new) (extended f next)
  right_more left right new by by_is same new_is =
      SameWeights-trans (SameWeights-append (SameWeights-refl p left) new_is)
      (SameWeights-trans (SameWeights_of (sym (append_assoc left right (scaled a by)) ∙ ap (λ w. (left ++ right) ++ scaled a w) (sym by_is)))
      (SameWeights-trans (SameWeights-append same (SameWeights-refl p (scaled a (f i)))) longer))

  pub left_more : (left right new by : Row) → f i ≡ by → SameWeights p (left ++ right) (extended f part) → SameWeights p new (left ++ scaled a by) → SameWeights p (new ++ right) (extended f next)
  left_more left right new by by_is same new_is =
      SameWeights-trans (SameWeights-append new_is (SameWeights-refl p right))
      (SameWeights-trans (SameWeights-equal (λ h. weigh-append h (left ++ scaled a by) right ∙ omega (arith, weigh-append h left (scaled a by), weigh-append h left right, weigh-append h (left ++ right) (scaled a by))))
      (SameWeights-trans (SameWeights_of (ap (λ w. (left ++ right) ++ scaled a w) (sym by_is)))
      (SameWeights-trans (SameWeights-append same (SameWeights-refl p (scaled a (f i)))) longer)))
