-- The longest run at the front of a text.
use Rattle.std.proofs.Common.{◌≡◌, ℕ, ◌+◌, ◌≤◌, Bool, inl, inr, List, [], ◌∷◌, length, take, drop, arith, refl, sym, ap, ◌∙◌, subst}
use Rattle.std.specs.Prelude.{IsTrue, IsFalse}
use Rattle.std.specs.List.{list_all, prefix_len}
use Rattle.std.proofs.Math.Numerals.{one-add}
use Rattle.std.proofs.lemmas.Bool.{cases_Bool, cond-true, cond-false, and_from, and_parts, or_left}
use Rattle.std.proofs.lemmas.List.Sums.{prefix_len-le-length}
use Rattle.std.proofs.lemmas.List.{take-append-drop}
use Rattle.ve_lex.specs.Runs.{IsRun}
use Rattle.ve_theory.specs.Validity.{is_name_letter, is_digit, is_name}
use Rattle.ve_formats.specs.Tokens.{name, Begins, with_name, StartsWithout, is_name_part, is_number, is_separator}

run_all : (belongs : ℕ → Bool) (text : List ℕ) → IsTrue (list_all belongs (take (prefix_len belongs text) text))
run_all belongs [] = refl
run_all belongs (b ∷ text) =
    elim (cases_Bool (belongs b)) [
      | inl member ↦ rw (cond-true (belongs b) (1 + prefix_len belongs text) 0 member, one-add) (and_from _ _ member (run_all belongs text))
      | inr other ↦ rw (cond-false (belongs b) (1 + prefix_len belongs text) 0 other) refl
    ]

run_end : (belongs : ℕ → Bool) (text : List ℕ) → StartsWithout belongs (drop (prefix_len belongs text) text)
run_end belongs [] = tt
run_end belongs (b ∷ text) =
    elim (cases_Bool (belongs b)) [
      | inl member ↦ rw (cond-true (belongs b) (1 + prefix_len belongs text) 0 member, one-add) (run_end belongs text)
      | inr other ↦ rw (cond-false (belongs b) (1 + prefix_len belongs text) 0 other) other
    ]

pub prefix_len-le : (belongs : ℕ → Bool) (text : List ℕ) (n : ℕ) → n ≡ prefix_len belongs text → n ≤ length text
prefix_len-le belongs text n counted = omega (arith, prefix_len-le-length belongs text)

-- cut at the length of the run
pub is_run : (belongs : ℕ → Bool) (text run rest : List ℕ) (n : ℕ) → n ≡ prefix_len belongs text → run ≡ take n text → rest ≡ drop n text → IsRun belongs text run rest
is_run belongs text run rest n counted front back =
    let whole : IsRun belongs text (take (prefix_len belongs text) text) (drop (prefix_len belongs text) text) =
    record { split = sym (take-append-drop (prefix_len belongs text) text); all = run_all belongs text; end = run_end belongs text } in
    subst (λ t. IsRun belongs text t rest) (sym (front ∙ ap (λ m. take m text) counted)) (subst (λ t. IsRun belongs text (take (prefix_len belongs text) text) t) (sym (back ∙ ap (λ m. drop m text) counted)) whole)

-- A run that its first byte belongs to isn't empty.
run_begins : (belongs : ℕ → Bool) (text run rest more : List ℕ) (b : ℕ) → IsRun belongs text run rest → text ≡ b ∷ more → IsTrue (belongs b) → (bs : List ℕ) × (run ≡ b ∷ bs)
run_begins belongs text [] rest more b cut first member =
    let stops : StartsWithout belongs (b ∷ more) = subst (StartsWithout belongs) (sym cut.split ∙ first) cut.end in
    absurd (cc (member, stops))
run_begins belongs text (c ∷ bs) rest more b cut first member =
    let same : c ≡ b = cc (cut.split, first) in
    (bs, ap (λ d. d ∷ bs) same)

pub begins_name : (text run rest more : List ℕ) (b : ℕ) → IsRun is_name_part text run rest → text ≡ b ∷ more → IsTrue (is_name_letter b) → Begins text (name run) rest
unfolding is_name
begins_name text run rest more b cut first letter =
    let (bs, is) = run_begins is_name_part text run rest more b cut first (or_left _ _ letter) in
    let parts = and_parts _ _ (subst (λ r. IsTrue (list_all is_name_part r)) is cut.all) in
    with_name cut.split (subst (λ r. IsTrue (is_name r)) (sym is) (and_from _ _ letter parts.1)) cut.end

pub is_number_run : (text run rest more : List ℕ) (b : ℕ) → IsRun is_digit text run rest → text ≡ b ∷ more → IsTrue (is_digit b) → IsTrue (is_number run)
is_number_run text run rest more b cut first digit =
    let (bs, is) = run_begins is_digit text run rest more b cut first digit in
    subst (λ r. IsTrue (is_number r)) (sym is) (subst (λ r. IsTrue (list_all is_digit r)) is cut.all)

pub first_is_no_separator : (text more : List ℕ) (b : ℕ) → text ≡ b ∷ more → StartsWithout is_separator text → IsFalse (is_separator b)
first_is_no_separator text more b first stops =
    let at_front : StartsWithout is_separator (b ∷ more) = subst (StartsWithout is_separator) first stops in
    at_front
