-- Factors that are the names of letters, and inverses of letters.
use Rattle.std.proofs.Common.{◌≡◌, ℕ, ◌<◌, List, [], ◌∷◌, length, Some, None, Ok, refl, sym, ◌∙◌, ap, subst}
use Rattle.std.specs.Prelude.{slice_get, ◌↔◌}
use Rattle.std.proofs.lemmas.Option.{slice_get_within}
use Rattle.ve_theory.specs.Combinations.{unit, IsReduced}
use Rattle.ve_theory.specs.Words.{ShortlexLetters}
use Rattle.ve_theory.specs.Elements.{AlgebraElement}
use Rattle.ve_theory.specs.Presentations.{Presentation}
use Rattle.ve_formats.specs.Expressions as expressions
use Rattle.ve_formats.specs.Expressions.{Expression}
use Rattle.ve_formats.specs.Values.{HasValue, HasInverse, of_letter}
use Rattle.ve_value.specs.declared.factor.Factor.{Factor}
use Rattle.ve_value.specs.Evaluation.{IsFactorOf, IsLetter}

-- the factor of a name that is found
pub named_letter : (P : Presentation) (name : List ℕ) (i : ℕ) (v : AlgebraElement) → ((letter : ℕ) → (Some i ≡ Some letter) ↔ (slice_get P.names letter ≡ Some name)) → v ≡ unit (i ∷ [])
    → IsReduced ShortlexLetters P.prime v → IsFactorOf P (expressions.letter name) (record { value = v; letter = Some i })
named_letter P name i v found is reduced =
    record {
      worth = record { value = subst (λ (v : AlgebraElement). HasValue P (expressions.letter name) (Ok v)) (sym is) (of_letter ((found i).0 refl)); reduced = reduced };
      letter = λ letter. ((λ e. record { name = name; is_name = refl; numbered = (found letter).0 e }), (λ l. back letter l));
    }
  where
    back : (letter : ℕ) → IsLetter P (expressions.letter name) letter → Some i ≡ Some letter
    back letter l =
        let same : name ≡ l.name = (let is = l.is_name in cc) in
        (found letter).1 (l.numbered ∙ ap Some (sym same))

-- a factor that is a letter's name has the letter's number
pub has_letter : (P : Presentation) (e : Expression) (factor : Factor) (i : ℕ) → IsFactorOf P e factor → factor.letter ≡ Some i → i < length P.names
has_letter P e factor i h is = let l = (h.letter i).0 is in slice_get_within _ _ _ l.numbered

-- its inverse
pub has_inverse : (P : Presentation) (e : Expression) (factor : Factor) (i y : ℕ) → IsFactorOf P e factor → factor.letter ≡ Some i → slice_get P.inverses i ≡ Some (Some y) → HasInverse P e y
has_inverse P e factor i y h is inverted = let l = (h.letter i).0 is in record { name = l.name; number = i; is_name = l.is_name; numbered = l.numbered; inverted = inverted }

-- where it has none
pub has_no_inverse : (P : Presentation) (e : Expression) (factor : Factor) (i : ℕ) → IsFactorOf P e factor → factor.letter ≡ Some i → slice_get P.inverses i ≡ Some None → (y : ℕ) → ¬ HasInverse P e y
has_no_inverse P e factor i h is none y inverse =
    let again : factor.letter ≡ Some inverse.number = (h.letter inverse.number).1 (record { name = inverse.name; is_name = inverse.is_name; numbered = inverse.numbered }) in
    let same : i ≡ inverse.number = (cc) in
    let inverted : slice_get P.inverses i ≡ Some (Some y) = ap (slice_get P.inverses) same ∙ inverse.inverted in
    (cc)

pub not_a_letter : (P : Presentation) (e : Expression) (factor : Factor) → IsFactorOf P e factor → factor.letter ≡ None → (y : ℕ) → ¬ HasInverse P e y
not_a_letter P e factor h is y inverse =
    let again : factor.letter ≡ Some inverse.number = (h.letter inverse.number).1 (record { name = inverse.name; is_name = inverse.is_name; numbered = inverse.numbered }) in
    (cc)
