-- A presentation has at most one answer.
use Rattle.std.proofs.Common.{◌≡◌, ℕ, suc, ◌+◌, ◌*◌, ◌-◌, ◌%◌, ◌<◌, nat_eq, List, [], ◌++◌, length, get_or, refl, sym, ap, ◌∙◌, subst, arith, ext_get_or}
use Rattle.std.proofs.lemmas.List.Elements.{All-append}
use Rattle.ve_theory.specs.Residues.{Congruent}
use Rattle.ve_theory.specs.Combinations.{Combination, unit, scaled, difference, coefficient}
use Rattle.ve_theory.specs.Words.{Word, generator, times}
use Rattle.ve_theory.specs.Elements.{Element}
use Rattle.ve_theory.specs.Presentations.{Presentation, IsPresentation, letter_count}
use Rattle.ve_theory.specs.Derivations.{Derived}
use Rattle.ve_theory.specs.Levels.{IsLeast, Lists}
use Rattle.ve_theory.specs.Answers.{Row, Action, Answer, IsRow, IsModuleAnswer, IsAnswer, dimension, image_row, matrix_row, basis_word}
use Rattle.ve_theory.specs.Laws.{ListsAreUnique}
use Rattle.ve_theory.proofs.Sums.{weigh, weigh-append, weigh-scaled, weigh-difference, SameWeights, SameWeights-sym, SameWeights-trans, extended-difference, same_from_difference, weights_from_Alike, Alike_from_weights, Decides-nat_eq, prime-large}
use Rattle.ve_theory.proofs.Reduced.{reduced_unique, below_strict}
use Rattle.ve_theory.proofs.DerivedElements.{Derived-alike, Derived-combined}
use Rattle.ve_theory.proofs.Members.{All-scaled}
use Rattle.ve_theory.proofs.RisingLists.{same_Lists, lists_of_words, sizes, closing_levels}
use Rattle.ve_theory.proofs.Independence.{congruent_by, of_row, least_words_independent}

-- x - s, minus x - r, is r - s
difference_number : (p x r s : ℕ) → 0 < p → Congruent p ((p - 1) * (x + (p - 1) * r) + 1 * (x + (p - 1) * s)) (r + (p - 1) * s)
difference_number p x r s l = subst (λ q. Congruent q ((p - 1) * (x + (p - 1) * r) + 1 * (x + (p - 1) * s)) (r + (p - 1) * s)) (omega arith) (at (p - 1))
  where
    at : (m : ℕ) → Congruent (suc m) (m * (x + m * r) + 1 * (x + m * s)) (r + m * s)
    at m = congruent_by (suc m) (m * (x + m * r) + 1 * (x + m * s)) (r + m * s) r (m * r + x) (omega arith)

pub difference_of_differences : {K : Type 0} (p : ℕ) (u r s : Combination K) → 0 < p → SameWeights p (scaled (p - 1) (difference p u r) ++ scaled 1 (difference p u s)) (difference p r s)
difference_of_differences p u r s l = record {
  at = λ h. ap (λ n. n % p) (simp (weigh-append, weigh-scaled) refl) ∙ (difference_number p (weigh h u) (weigh h r) (weigh h s) l ∙ ap (λ n. n % p) (sym (weigh-difference h p r s)));
}

-- rows that stand for one element are equal
pub same_row : (P : Presentation) → IsPresentation P → (ws : List Word) → Lists P (IsLeast P) ws → (u : Element) (r s : Row) → IsRow P.prime (length ws) r → IsRow P.prime (length ws) s
    → Derived P (difference P.prime u (of_row ws r)) → Derived P (difference P.prime u (of_row ws s)) → r ≡ s
unfolding coefficient
same_row P V ws L u r s g h d e =
    reduced_unique ◌<◌ below_strict nat_eq Decides-nat_eq P.prime r s g.0 h.0
    (Alike_from_weights nat_eq (same_from_difference P.prime r s positive (weights_from_Alike nat_eq Decides-nat_eq P.prime (difference P.prime r s) [] zeros)))
  where
    positive : 0 < P.prime
    positive = omega (arith, prime-large P.prime V.field)

    derived : Derived P (of_row ws (difference P.prime r s))
    derived =
        Derived-alike P
        (SameWeights-trans (difference_of_differences P.prime u (of_row ws r) (of_row ws s) positive) (SameWeights-sym (extended-difference P.prime (λ j. unit (get_or ws j (generator 0))) r s)))
        (Derived-combined P (P.prime - 1) 1 d e)

    zeros : (j : ℕ) → Congruent P.prime (coefficient nat_eq (difference P.prime r s) j) 0
    zeros = least_words_independent P V ws L (difference P.prime r s) (All-append (λ (t : ℕ × ℕ). t.0 < length ws) r (scaled (P.prime - 1) s) g.1 (All-scaled (λ j. j < length ws) (P.prime - 1) s h.1)) derived

same_actions : (A B : Action) → A.basis ≡ B.basis → A.images ≡ B.images → A.matrices ≡ B.matrices → A ≡ B
same_actions A B e f g = λ i. record { basis = e i; images = f i; matrices = g i }

same_answers : (A B : Answer) → A.prime ≡ B.prime → A.names ≡ B.names → A.generators ≡ B.generators → A.closed ≡ B.closed → A.action ≡ B.action → A ≡ B
same_answers A B e f g h k = λ i. record { prime = e i; names = f i; generators = g i; closed = h i; action = k i }

-- the rows of the module's answer, on its basis ws
module _ (P : Presentation) (A : Answer) (F : IsModuleAnswer P A) (ws : List Word) (e : A.action.basis ≡ ws) where
  matrix_length : (x : ℕ) → x < letter_count P → length (get_or A.action.matrices x []) ≡ length ws
  matrix_length x l = F.form.square x [] (omega (arith, F.form.one_matrix_each, ap length F.shape.names)) ∙ ap length e

  image_form : (i : ℕ) → i < P.generators → IsRow P.prime (length ws) (image_row A.action i)
  image_form i l =
      subst (λ n. IsRow P.prime n (image_row A.action i)) (ap length e)
      (subst (λ p. IsRow p (dimension A.action) (image_row A.action i)) F.shape.prime (F.form.images i [] (omega (arith, F.form.one_image_each, F.shape.generators))))

  image_derived : (i : ℕ) → i < P.generators → Derived P (difference P.prime (unit (generator i)) (of_row ws (image_row A.action i)))
  image_derived i l = subst (λ us. Derived P (difference P.prime (unit (generator i)) (of_row us (image_row A.action i)))) e (F.rows.images i l)

  matrix_form : (x j : ℕ) → x < letter_count P → j < length ws → IsRow P.prime (length ws) (matrix_row A.action x j)
  matrix_form x j l m =
      subst (λ n. IsRow P.prime n (matrix_row A.action x j)) (ap length e)
      (subst (λ p. IsRow p (dimension A.action) (matrix_row A.action x j)) F.shape.prime
      (F.form.matrices x [] (omega (arith, F.form.one_matrix_each, ap length F.shape.names)) j [] (omega (arith, matrix_length x l))))

  matrix_derived : (x j : ℕ) → x < letter_count P → j < length ws → Derived P (difference P.prime (unit (times (get_or ws j (generator 0)) x)) (of_row ws (matrix_row A.action x j)))
  matrix_derived x j l m =
      subst (λ us. Derived P (difference P.prime (unit (times (get_or us j (generator 0)) x)) (of_row us (matrix_row A.action x j)))) e (F.rows.matrices x j l (omega (arith, ap length e)))

module _ (P : Presentation) (V : IsPresentation P) (A B : Answer) (F : IsModuleAnswer P A) (G : IsModuleAnswer P B) where
  same_basis : B.action.basis ≡ A.action.basis
  same_basis = same_Lists P (IsLeast P) B.action.basis A.action.basis G.basis F.basis

  same_images : A.action.images ≡ B.action.images
  same_images = ext_get_or [] A.action.images B.action.images (F.form.one_image_each ∙ (F.shape.generators ∙ sym (G.form.one_image_each ∙ G.shape.generators))) row
    where
      row : (i : ℕ) → i < length A.action.images → image_row A.action i ≡ image_row B.action i
      row i l =
          let m : i < P.generators = omega (arith, F.form.one_image_each, F.shape.generators) in
          same_row P V A.action.basis F.basis (unit (generator i)) (image_row A.action i) (image_row B.action i)
          (image_form P A F A.action.basis refl i m) (image_form P B G A.action.basis same_basis i m)
          (image_derived P A F A.action.basis refl i m) (image_derived P B G A.action.basis same_basis i m)

  same_matrices : A.action.matrices ≡ B.action.matrices
  same_matrices =
      ext_get_or [] A.action.matrices B.action.matrices (F.form.one_matrix_each ∙ (ap length F.shape.names ∙ sym (G.form.one_matrix_each ∙ ap length G.shape.names))) matrix
    where
      row : (x j : ℕ) → x < letter_count P → j < dimension A.action → matrix_row A.action x j ≡ matrix_row B.action x j
      row x j l m =
          same_row P V A.action.basis F.basis (unit (times (basis_word A.action j) x)) (matrix_row A.action x j) (matrix_row B.action x j)
          (matrix_form P A F A.action.basis refl x j l m) (matrix_form P B G A.action.basis same_basis x j l m)
          (matrix_derived P A F A.action.basis refl x j l m) (matrix_derived P B G A.action.basis same_basis x j l m)

      matrix : (x : ℕ) → x < length A.action.matrices → get_or A.action.matrices x [] ≡ get_or B.action.matrices x []
      matrix x l =
          let m : x < letter_count P = omega (arith, F.form.one_matrix_each, ap length F.shape.names) in
          let size : length (get_or A.action.matrices x []) ≡ dimension A.action = matrix_length P A F A.action.basis refl x m in
          ext_get_or [] (get_or A.action.matrices x []) (get_or B.action.matrices x []) (size ∙ sym (matrix_length P B G A.action.basis same_basis x m))
          (λ j n. row x j m (omega (arith, size)))

pub module_answers : (P : Presentation) (A B : Answer) → IsPresentation P → IsModuleAnswer P A → IsModuleAnswer P B → A ≡ record B { closed = A.closed }
module_answers P A B V F G =
    same_answers A (record B { closed = A.closed }) (F.shape.prime ∙ sym G.shape.prime) (F.shape.names ∙ sym G.shape.names) (F.shape.generators ∙ sym G.shape.generators) refl
    (same_actions A.action B.action (sym (same_basis P V A B F G)) (same_images P V A B F G) (same_matrices P V A B F G))

pub answers : (P : Presentation) (A B : Answer) → IsPresentation P → IsAnswer P A → IsAnswer P B → A ≡ B
answers P A B V F G =
    module_answers P A B V F.module_answer G.module_answer ∙ ap (λ n. record B { closed = n }) (closing_levels P A.closed B.closed F.closed G.closed)

pub lists_are_unique : ListsAreUnique
lists_are_unique = record { of_words = lists_of_words; sizes = sizes; closing_levels = closing_levels; module_answers = module_answers; answers = answers }
