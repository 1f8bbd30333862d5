use Rattle.std.proofs.Common.{◌≡◌, ℕ, Bool, Decides, nat_eq}
use Rattle.std.proofs.lemmas.List.Elements.{All-weaker}
use Rattle.ve_theory.specs.Combinations.{Alike}
use Rattle.ve_theory.specs.Words.{same_word}
use Rattle.ve_theory.specs.Laws.{ExtendsSums}
use Rattle.ve_theory.proofs.elements.sums_extend.Goals as goal
use Rattle.ve_theory.proofs.Sums.{SameWeights, SameWeights_of, SameWeights-extended, SameWeights-extended_by, extended-append, extended-scaled, extended-unit, extended-extended, Alike_from_weights, weights_from_Alike, Decides-nat_eq, Decides-same_word}

extends : {J K : Type 0} (source : J → J → Bool) (decides : (i j : J) → Decides (source i j) (i ≡ j)) (same : K → K → Bool) (decides_values : (i j : K) → Decides (same i j) (i ≡ j)) → ExtendsSums source same
extends {J} {K} source decides same decides_values = record {
  alike = λ p f u v e. Alike_from_weights same (SameWeights-extended f (weights_from_Alike source decides p u v e));
  values = λ p f g v e.
      Alike_from_weights same
      (SameWeights-extended_by f g v
      (All-weaker (λ (t : J × ℕ). Alike same p (f t.0) (g t.0)) (λ (t : J × ℕ). SameWeights p (f t.0) (g t.0)) (λ t a. weights_from_Alike same decides_values p (f t.0) (g t.0) a) v e));
  sums = λ p f u v. Alike_from_weights same (SameWeights_of (extended-append f u v));
  scalings = λ p c f v. Alike_from_weights same (extended-scaled p f c v);
  units = λ p f j. Alike_from_weights same (extended-unit p f j);
  nested = λ p f g v. Alike_from_weights same (extended-extended p f g v);
}

pub returns : goal.returns
returns c = record {
  rows = extends nat_eq Decides-nat_eq nat_eq Decides-nat_eq;
  row_elements = extends nat_eq Decides-nat_eq same_word Decides-same_word;
  element_rows = extends same_word Decides-same_word nat_eq Decides-nat_eq;
  elements = extends same_word Decides-same_word same_word Decides-same_word;
}
