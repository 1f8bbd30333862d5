-- Sums of what was read for the ids of a vector, one term longer.
use Rattle.std.proofs.Common.{◌≡◌, ℕ, ◌+◌, ◌<◌, nat_eq, None, Some, List, [], ◌∷◌, ◌++◌, All, length, take, refl, sym, ap, subst, ◌∙◌, append_assoc, append-nil, arith}
use Rattle.std.specs.Prelude.{Option, slice_get}
use Rattle.std.proofs.lemmas.Option.{get_or_from_slice_get, slice_get_within}
use Rattle.std.proofs.lemmas.List.{length-take-le, take_more}
use Rattle.std.proofs.lemmas.List.Elements.{All-contains}
use Rattle.ve_theory.specs.Combinations.{scaled, IsReduced, IsReducedOf}
use Rattle.ve_theory.specs.Answers.{Row}
use Rattle.ve_theory.proofs.Sums.{weigh-append, weigh-scaled, SameWeights, SameWeights-refl, SameWeights-trans, SameWeights-append, SameWeights_of, Alike_from_weights}
use Rattle.ve_theory.proofs.DerivedElements.{SameWeights-equal}
use Rattle.ve_lemmas.proofs.Lists.{Contains-slice_get}
use Rattle.ve_machine.specs.Hands.{Found, forward_found, none_found, row_found}
use Rattle.ve_machine.specs.HandSteps.{multiplied_by, repaired}
use Rattle.ve_machine.proofs.ReducedSums.{reduced_same}
use Rattle.ve_hand.proofs.Residues.{residues_of}
use Rattle.ve_hand.specs.Fits.{FitsFound}
use Rattle.ve_hand.specs.Views.{and_then, forward_in, row_in}

-- one term more
pub taken_more : (v : Row) (i : ℕ) (t : ℕ × ℕ) → slice_get v i ≡ Some t → take (i + 1) v ≡ take i v ++ t ∷ []
taken_more v i t found = take_more v i t (slice_get_within v i t found) ∙ ap (λ s. take i v ++ s ∷ []) (get_or_from_slice_get v i t t found)

-- what stands for a term, by what was read for its id
abbrev pub replaced : Option Found → ℕ × ℕ → Row
replaced None t = t ∷ []
replaced (Some (row_found row)) t = t ∷ []
replaced (Some none_found) t = t ∷ []
replaced (Some (forward_found forward)) t = scaled t.1 forward

abbrev pub product_of : Option Found → ℕ × ℕ → Row
product_of None t = []
product_of (Some (row_found row)) t = scaled t.1 row
product_of (Some none_found) t = []
product_of (Some (forward_found forward)) t = []

pub repaired_none : (founds : List Found) → repaired founds [] ≡ []
repaired_none [] = refl
repaired_none (found ∷ founds) = refl

pub repaired_more : (founds : List Found) (u : Row) (t : ℕ × ℕ) → repaired founds (u ++ t ∷ []) ≡ repaired founds u ++ replaced (slice_get founds (length u)) t
repaired_more [] u t = refl
repaired_more (row_found row ∷ founds) [] t = ap (λ v. t ∷ v) (repaired_none founds)
repaired_more (none_found ∷ founds) [] t = ap (λ v. t ∷ v) (repaired_none founds)
repaired_more (forward_found forward ∷ founds) [] t = ap (λ v. scaled t.1 forward ++ v) (repaired_none founds) ∙ append-nil (scaled t.1 forward)
repaired_more (row_found row ∷ founds) (s ∷ u) t = ap (λ v. s ∷ v) (repaired_more founds u t)
repaired_more (none_found ∷ founds) (s ∷ u) t = ap (λ v. s ∷ v) (repaired_more founds u t)
repaired_more (forward_found forward ∷ founds) (s ∷ u) t =
    ap (λ v. scaled s.1 forward ++ v) (repaired_more founds u t) ∙ sym (append_assoc (scaled s.1 forward) (repaired founds u) (replaced (slice_get founds (length u)) t))

pub multiplied_none : (founds : List Found) → multiplied_by founds [] ≡ []
multiplied_none [] = refl
multiplied_none (found ∷ founds) = refl

pub multiplied_more : (founds : List Found) (u : Row) (t : ℕ × ℕ) → multiplied_by founds (u ++ t ∷ []) ≡ multiplied_by founds u ++ product_of (slice_get founds (length u)) t
multiplied_more [] u t = refl
multiplied_more (row_found row ∷ founds) [] t = ap (λ v. scaled t.1 row ++ v) (multiplied_none founds) ∙ append-nil (scaled t.1 row)
multiplied_more (none_found ∷ founds) [] t = multiplied_none founds
multiplied_more (forward_found forward ∷ founds) [] t = multiplied_none founds
multiplied_more (row_found row ∷ founds) (s ∷ u) t =
    ap (λ v. scaled s.1 row ++ v) (multiplied_more founds u t) ∙ sym (append_assoc (scaled s.1 row) (multiplied_by founds u) (product_of (slice_get founds (length u)) t))
multiplied_more (none_found ∷ founds) (s ∷ u) t = multiplied_more founds u t
multiplied_more (forward_found forward ∷ founds) (s ∷ u) t = multiplied_more founds u t

-- a sum in two parts, to which something is added on the right, or a term on the left

pub right_more : (p : ℕ) (left right new more sum : Row) → SameWeights p new (right ++ more) → SameWeights p (left ++ right) sum → SameWeights p (left ++ new) (sum ++ more)
right_more p left right new more sum new_is same =
    SameWeights-trans (SameWeights-append (SameWeights-refl p left) new_is)
    (SameWeights-trans (SameWeights_of (sym (append_assoc left right more))) (SameWeights-append same (SameWeights-refl p more)))

pub left_more : (p : ℕ) (left right new more sum : Row) → SameWeights p new (left ++ scaled 1 more) → SameWeights p (left ++ right) sum → SameWeights p (new ++ right) (sum ++ more)
left_more p left right new more sum new_is same =
    SameWeights-trans (SameWeights-append new_is (SameWeights-refl p right))
    (SameWeights-trans (SameWeights-equal (λ h. simp (weigh-append, weigh-scaled) (omega arith))) (SameWeights-append same (SameWeights-refl p more)))

-- a sum to which something is added
pub sum_more : (p : ℕ) (u v more e : Row) → IsReducedOf ◌<◌ nat_eq p u e → IsReducedOf ◌<◌ nat_eq p v (u ++ more) → IsReducedOf ◌<◌ nat_eq p v (e ++ more)
sum_more p u v more e before after = record {
  reduced = after.reduced;
  alike = Alike_from_weights nat_eq
      (SameWeights-trans (reduced_same p v (u ++ more) after) (SameWeights-append (reduced_same p u e before) (SameWeights-refl p more)));
}

-- along a vector, by what was read at each place

abbrev pub forward_read : List Found → ℕ → Option Row
forward_read founds at = and_then (slice_get founds at) forward_in

abbrev pub row_read : List Found → ℕ → Option Row
row_read founds at = and_then (slice_get founds at) row_in

-- what was read fits

found_fits : (p : ℕ) (founds : List Found) (at : ℕ) (found : Found) → All (FitsFound p) founds → slice_get founds at ≡ Some found → FitsFound p found
found_fits p founds at found fits is = All-contains (FitsFound p) founds found fits (Contains-slice_get founds found at is)

pub forward_read_fits : (p : ℕ) (founds : List Found) (at : ℕ) (forward : Row) → All (FitsFound p) founds → Some forward ≡ forward_read founds at → IsReduced ◌<◌ p forward
forward_read_fits p founds at forward fits = cases (slice_get founds at) refl
  where
    cases : (o : Option Found) → slice_get founds at ≡ o → Some forward ≡ and_then o forward_in → IsReduced ◌<◌ p forward
    cases None found is = absurd cc
    cases (Some (row_found row)) found is = absurd cc
    cases (Some none_found) found is = absurd cc
    cases (Some (forward_found other)) found is = let same : other ≡ forward = cc in subst (IsReduced ◌<◌ p) same (found_fits p founds at (forward_found other) fits found)

pub row_read_fits : (p : ℕ) (founds : List Found) (at : ℕ) (row : Row) → All (FitsFound p) founds → Some row ≡ row_read founds at → IsReduced ◌<◌ p row
row_read_fits p founds at row fits = cases (slice_get founds at) refl
  where
    cases : (o : Option Found) → slice_get founds at ≡ o → Some row ≡ and_then o row_in → IsReduced ◌<◌ p row
    cases None found is = absurd cc
    cases (Some (forward_found forward)) found is = absurd cc
    cases (Some none_found) found is = absurd cc
    cases (Some (row_found other)) found is = let same : other ≡ row = cc in subst (IsReduced ◌<◌ p) same (found_fits p founds at (row_found other) fits found)

replaced_forward : (o : Option Found) (t : ℕ × ℕ) (forward : Row) → Some forward ≡ and_then o forward_in → replaced o t ≡ scaled t.1 forward
replaced_forward None t forward is = absurd cc
replaced_forward (Some (row_found row)) t forward is = absurd cc
replaced_forward (Some none_found) t forward is = absurd cc
replaced_forward (Some (forward_found other)) t forward is = let same : other ≡ forward = cc in ap (scaled t.1) same

replaced_nothing : (o : Option Found) (t : ℕ × ℕ) → None ≡ and_then o forward_in → replaced o t ≡ t ∷ []
replaced_nothing None t is = refl
replaced_nothing (Some (row_found row)) t is = refl
replaced_nothing (Some none_found) t is = refl
replaced_nothing (Some (forward_found other)) t is = absurd cc

product_of_row : (o : Option Found) (t : ℕ × ℕ) (row : Row) → Some row ≡ and_then o row_in → product_of o t ≡ scaled t.1 row
product_of_row None t row is = absurd cc
product_of_row (Some (forward_found forward)) t row is = absurd cc
product_of_row (Some none_found) t row is = absurd cc
product_of_row (Some (row_found other)) t row is = let same : other ≡ row = cc in ap (scaled t.1) same

product_of_nothing : (o : Option Found) (t : ℕ × ℕ) → None ≡ and_then o row_in → product_of o t ≡ []
product_of_nothing None t is = refl
product_of_nothing (Some (forward_found forward)) t is = refl
product_of_nothing (Some none_found) t is = refl
product_of_nothing (Some (row_found other)) t is = absurd cc

module _ (founds : List Found) (v : Row) (at : ℕ) (t : ℕ × ℕ) (found : slice_get v at ≡ Some t) where
  here : length (take at v) ≡ at
  here = length-take-le at v (omega (arith, slice_get_within v at t found))

  repaired_next : repaired founds (take (at + 1) v) ≡ repaired founds (take at v) ++ replaced (slice_get founds at) t
  repaired_next =
      ap (repaired founds) (taken_more v at t found) ∙ repaired_more founds (take at v) t
      ∙ ap (λ n. repaired founds (take at v) ++ replaced (slice_get founds n) t) here

  multiplied_next : multiplied_by founds (take (at + 1) v) ≡ multiplied_by founds (take at v) ++ product_of (slice_get founds at) t
  multiplied_next =
      ap (multiplied_by founds) (taken_more v at t found) ∙ multiplied_more founds (take at v) t
      ∙ ap (λ n. multiplied_by founds (take at v) ++ product_of (slice_get founds n) t) here

  pub forward_brought : (p : ℕ) (forward : Row) → Some forward ≡ forward_read founds at → (kept brought new : Row) → SameWeights p (kept ++ brought) (repaired founds (take at v))
      → IsReducedOf ◌<◌ nat_eq p new (brought ++ scaled t.1 forward) → SameWeights p (kept ++ new) (repaired founds (take (at + 1) v))
  forward_brought p forward is kept brought new so_far added =
      SameWeights-trans (right_more p kept brought new (scaled t.1 forward) (repaired founds (take at v)) (reduced_same p new (brought ++ scaled t.1 forward) added) so_far)
      (SameWeights_of (sym (repaired_next ∙ ap (λ w. repaired founds (take at v) ++ w) (replaced_forward (slice_get founds at) t forward is))))

  pub term_kept : (p : ℕ) → None ≡ forward_read founds at → (kept brought new : Row) → SameWeights p (kept ++ brought) (repaired founds (take at v))
      → IsReducedOf ◌<◌ nat_eq p new (kept ++ scaled 1 (t ∷ [])) → SameWeights p (new ++ brought) (repaired founds (take (at + 1) v))
  term_kept p is kept brought new so_far added =
      SameWeights-trans (left_more p kept brought new (t ∷ []) (repaired founds (take at v)) (reduced_same p new (kept ++ scaled 1 (t ∷ [])) added) so_far)
      (SameWeights_of (sym (repaired_next ∙ ap (λ w. repaired founds (take at v) ++ w) (replaced_nothing (slice_get founds at) t is))))

  pub row_added : (p : ℕ) (row : Row) → Some row ≡ row_read founds at → (sum new : Row) → IsReducedOf ◌<◌ nat_eq p sum (multiplied_by founds (take at v))
      → IsReducedOf ◌<◌ nat_eq p new (sum ++ scaled t.1 row) → IsReducedOf ◌<◌ nat_eq p new (multiplied_by founds (take (at + 1) v))
  row_added p row is sum new so_far added =
      subst (IsReducedOf ◌<◌ nat_eq p new) (sym (multiplied_next ∙ ap (λ w. multiplied_by founds (take at v) ++ w) (product_of_row (slice_get founds at) t row is)))
      (sum_more p sum new (scaled t.1 row) (multiplied_by founds (take at v)) so_far added)

  pub nothing_added : (p : ℕ) → None ≡ row_read founds at → (sum : Row) → IsReducedOf ◌<◌ nat_eq p sum (multiplied_by founds (take at v))
      → IsReducedOf ◌<◌ nat_eq p sum (multiplied_by founds (take (at + 1) v))
  nothing_added p is sum so_far =
      subst (IsReducedOf ◌<◌ nat_eq p sum)
      (sym (multiplied_next ∙ ap (λ w. multiplied_by founds (take at v) ++ w) (product_of_nothing (slice_get founds at) t is) ∙ append-nil (multiplied_by founds (take at v)))) so_far

-- a term's coefficient is a residue
pub term_residue : (p : ℕ) (v : Row) (at : ℕ) (t : ℕ × ℕ) → IsReduced ◌<◌ p v → slice_get v at ≡ Some t → t.1 < p
term_residue p v at t reduced found =
    All-contains (λ (s : ℕ × ℕ). s.1 < p) v t (residues_of ◌<◌ p v reduced) (Contains-slice_get v t at found)
