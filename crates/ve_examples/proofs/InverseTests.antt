-- Presentations whose letters have inverses.
use Rattle.std.proofs.Common.{◌≡◌, [], ◌∷◌, refl}
use Rattle.ve_theory.specs.Residues.{primes}
use Rattle.ve_theory.specs.Combinations.{coefficient}
use Rattle.ve_theory.specs.Words.{start, letters, same_letters, ShortlexLetters}
use Rattle.ve_theory.specs.Elements.{AlgebraElement, greatest, inverse_of_letters, halved, IsAlgebraElementOf}
use Rattle.ve_theory.specs.Presentations.{IsPresentation, inverse_relators, relators}
use Rattle.ve_theory.specs.Validity.{is_name, is_rooted, IsValid}
use Rattle.ve_theory.specs.Laws.{IsBalanceOf, none, kept}
use Rattle.ve_lemmas.proofs.Words.{same_letters-true}
use Rattle.ve_examples.specs.ThreeCycle.{three_cycle, three_cycle_relators}
use Rattle.ve_examples.specs.Triangle.{triangle, balanced_triangle}
use Rattle.ve_examples.proofs.ListTests.{every, all_below, all_pairs}
use Rattle.ve_examples.proofs.OrderTests.{differs_below, is_reduced, is_reduced-true, is_shortlex_letters, is_shortlex_letters-true}
use Rattle.ve_examples.proofs.SumTests.{are_alike-true}
use Rattle.ve_examples.proofs.PresentationTests.{is_presentation, is_presentation-true, is_valid, is_valid-true}

pub three_cycle_valid : IsValid three_cycle
unfolding three_cycle is_valid every all_below all_pairs differs_below is_reduced primes start letters same_letters is_name is_rooted inverse_relators greatest
three_cycle_valid = is_valid-true three_cycle refl

pub three_cycle_numbered : relators three_cycle ≡ three_cycle_relators
unfolding three_cycle inverse_relators
three_cycle_numbered = refl

pub triangle_valid : IsValid triangle
unfolding triangle is_valid every all_below all_pairs differs_below is_reduced primes start letters same_letters is_name is_rooted inverse_relators greatest
triangle_valid = is_valid-true triangle refl

pub balanced_triangle_presents : IsPresentation balanced_triangle
unfolding triangle balanced_triangle is_presentation every all_below all_pairs differs_below is_reduced primes start letters same_letters
balanced_triangle_presents = is_presentation-true balanced_triangle refl

pub triangle_balanced : IsBalanceOf triangle balanced_triangle
unfolding triangle balanced_triangle differs_below is_reduced same_letters coefficient halved inverse_of_letters
triangle_balanced = record {
  prime = refl;
  names = refl;
  inverses = refl;
  weights = refl;
  generators = refl;
  submodule = refl;
  relations = kept whole half [] [] half_of none;
}
  where
    whole : AlgebraElement
    whole = (0 ∷ 1 ∷ 0 ∷ 1 ∷ 0 ∷ 1 ∷ [], 1) ∷ ([], 2) ∷ []

    half : AlgebraElement
    half = (1 ∷ 0 ∷ 1 ∷ [], 2) ∷ (0 ∷ 1 ∷ 0 ∷ [], 1) ∷ []

    half_of : IsAlgebraElementOf 3 half (halved triangle.inverses whole)
    half_of = record {
      reduced = is_reduced-true is_shortlex_letters ShortlexLetters is_shortlex_letters-true 3 half refl;
      alike = are_alike-true same_letters same_letters-true 3 half (halved triangle.inverses whole) refl;
    }
