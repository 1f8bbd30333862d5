-- The relations of a presentation have its letters, generators and residues.
use Rattle.std.proofs.Common.{◌≡◌, ℕ, suc, ◌+◌, ◌-◌, ◌<◌, List, [], ◌∷◌, All, Option, Some, None, slice_get, slice_index_or, refl, sym, ap, ◌∙◌, arith}
use Rattle.std.proofs.lemmas.List.Elements.{All-nil, All-cons, All-append, All-get_or, All-weaker}
use Rattle.std.proofs.lemmas.Option.{slice_get_within}
use Rattle.ve_theory.specs.Combinations.{Combination, IsReduced}
use Rattle.ve_theory.specs.Words.{Shortlex, ShortlexLetters}
use Rattle.ve_theory.specs.Elements.{AlgebraElement}
use Rattle.ve_theory.specs.Presentations.{Presentation, IsPresentation, HasLetters, letter_count, inverse_relators, relators}
use Rattle.ve_theory.proofs.RelatorReaches.{relators_reduced}
use Rattle.ve_trace.specs.Found.{RelationsAreOwn}

pub residues_of : {K : Type 0} (before : K → K → Type 0) (p : ℕ) (v : Combination K) → IsReduced before p v → All (λ t. t.1 < p) v
unfolding IsReduced
residues_of {K} before p [] reduced = All-nil (λ (t : K × ℕ). t.1 < p)
residues_of {K} before p (t ∷ v) reduced = All-cons (λ (s : K × ℕ). s.1 < p) t v reduced.1 (residues_of before p v reduced.3)

-- letters that have inverses, and these, are letters
module _ (P : Presentation) (V : IsPresentation P) where
  abbrev IsOwn : AlgebraElement → Type 0
  IsOwn r = All (λ t. HasLetters P t.0) r

  -- these are the inverses from the letter x on
  abbrev AreInversesFrom : ℕ → List (Option ℕ) → Type 0
  AreInversesFrom x inverses = (i : ℕ) (o : Option ℕ) → slice_get inverses i ≡ Some o → slice_get P.inverses (x + i) ≡ Some o

  later : (x : ℕ) (o : Option ℕ) (rest : List (Option ℕ)) → AreInversesFrom x (o ∷ rest) → AreInversesFrom (x + 1) rest
  later x o rest at i q e = let place : x + suc i ≡ (x + 1) + i = omega arith in ap (slice_get P.inverses) (sym place) ∙ at (suc i) q e

  inverses_own : (x : ℕ) (inverses : List (Option ℕ)) → AreInversesFrom x inverses → All IsOwn (inverse_relators P.prime x inverses)
  unfolding inverse_relators
  inverses_own x [] at = All-nil IsOwn
  inverses_own x (None ∷ rest) at = inverses_own (x + 1) rest (later x None rest at)
  inverses_own x (Some y ∷ rest) at = All-cons IsOwn ((x ∷ y ∷ [], 1) ∷ ([], P.prime - 1) ∷ []) (inverse_relators P.prime (x + 1) rest) own (inverses_own (x + 1) rest (later x (Some y) rest at))
    where
      own : IsOwn ((x ∷ y ∷ [], 1) ∷ ([], P.prime - 1) ∷ [])
      own =
          let here : x + 0 ≡ x = omega arith in
          let first : slice_get P.inverses x ≡ Some (Some y) = ap (slice_get P.inverses) (sym here) ∙ at 0 (Some y) refl in
          let second : slice_get P.inverses y ≡ Some (Some x) = V.inverses x y first in
          let L : List ℕ × ℕ → Type 0 = λ t. HasLetters P t.0 in
          let B : ℕ → Type 0 = λ z. z < letter_count P in
          All-cons L (x ∷ y ∷ [], 1) (([], P.prime - 1) ∷ [])
          (All-cons B x (y ∷ []) (omega (arith, slice_get_within P.inverses x (Some y) first, V.one_inverse_each))
          (All-cons B y [] (omega (arith, slice_get_within P.inverses y (Some x) second, V.one_inverse_each)) (All-nil B)))
          (All-cons L ([], P.prime - 1) [] (All-nil B) (All-nil L))

  relators_own : All IsOwn (relators P)
  relators_own =
      All-append IsOwn (inverse_relators P.prime 0 P.inverses) P.relations
      (inverses_own 0 P.inverses (λ i o e. let place : i ≡ 0 + i = omega arith in ap (slice_get P.inverses) (sym place) ∙ e))
      (All-weaker (λ (r : AlgebraElement). IsReduced ShortlexLetters P.prime r × All (λ t. HasLetters P t.0) r × (r ≡ [] → ⊥)) IsOwn (λ r h. h.1) P.relations V.relations)

pub own_relations : RelationsAreOwn
own_relations P V = record {
  letters = λ number within. All-get_or (λ (r : AlgebraElement). All (λ t. HasLetters P t.0) r) (relators P) number [] within (relators_own P V);
  residues = λ number within.
      residues_of ShortlexLetters P.prime (slice_index_or (relators P) number [])
      (All-get_or (λ (r : AlgebraElement). IsReduced ShortlexLetters P.prime r) (relators P) number [] within (relators_reduced P V));
  submodule_words = λ number within. (V.submodule number [] within).1;
  submodule_residues = λ number within. residues_of Shortlex P.prime (slice_index_or P.submodule number []) (V.submodule number [] within).0;
}
