-- Hands over a field stay so.
use Rattle.std.proofs.Common.{◌≡◌, ℕ, zero, suc, ◌<◌, None, Some, List, [], ◌∷◌, All, map, refl, sym, ap, subst, ◌∙◌}
use Rattle.std.specs.Prelude.{Option, slice_get, slice_index_or, unwrap_or}
use Rattle.std.proofs.lemmas.List.Elements.{All-cons, All-get_or, All-head, All-map, All-nil, All-tail, All-weaker}
use Rattle.ve_theory.specs.Combinations.{Combination, unit, IsReduced}
use Rattle.ve_theory.specs.Words.{letters, start, Shortlex, ShortlexLetters}
use Rattle.ve_theory.specs.Elements.{AlgebraElement}
use Rattle.ve_theory.specs.Presentations.{relator, relators, submodule_relation}
use Rattle.ve_theory.specs.Answers.{Row}
use Rattle.ve_theory.proofs.Sums.{prime-large}
use Rattle.ve_theory.proofs.RelatorReaches.{relators_reduced}
use Rattle.ve_vec.specs.Tracing.{row_or_zero}
use Rattle.ve_table.specs.Tables.{ActionTable, presented, row_at}
use Rattle.ve_table.specs.Sound.{IsSound}
use Rattle.ve_table.proofs.Units.{unit_reduced}
use Rattle.ve_machine.specs.Seats.{Job, image_job, relator_job, submodule_job}
use Rattle.ve_machine.specs.Hands.{Beginning, Hand, Part, beginning_hand, begun_with, empty_hand, from_forward, from_id, from_image, next_hand, parts_of, summed_hand, tracing_hand}
use Rattle.ve_machine.specs.HandSteps.{Applies, Repairs, begins_forward, begins_image, found_at, found_for, multiplies, read_for, read_hand, repairs_part, repairs_sum, sums}
use Rattle.ve_hand.specs.Fits.{FitsFound, FitsHand, FitsPart, FitsReading}
use Rattle.ve_hand.specs.Jobs.{HasRelation}
use Rattle.ve_hand.proofs.FromTables.{of_table}
use Rattle.ve_hand.proofs.Residues.{residues_of}

none_fits : (p : ℕ) → IsReduced ◌<◌ p []
unfolding IsReduced
none_fits p = tt

-- what holds of each element, and of what stands for a missing one, holds at each place
at_or : {X : Type 0} (P : X → Type 0) (xs : List X) (d : X) → P d → ((i : ℕ) (x : X) → slice_get xs i ≡ Some x → P x) → (i : ℕ) → P (slice_index_or xs i d)
at_or P [] d missing each i = missing
at_or P (x ∷ xs) d missing each zero = each 0 x refl
at_or P (x ∷ xs) d missing each (suc i) = at_or P xs d missing (λ j y found. each (suc j) y found) i

-- the next part

begun_fits : (p : ℕ) (sum : Row) (part : Part) (parts : List Part) (beginning : Beginning) → 1 < p → IsReduced ◌<◌ p sum → FitsPart p part → All (FitsPart p) parts
    → FitsHand p (begun_with sum part parts beginning)
begun_fits p sum part parts (from_id b) large sum_fits part_fits parts_fit =
    record { sum_fits = sum_fits; residue = part_fits; parts_fit = parts_fit; vector_fits = unit_reduced p b large; read_fits = tt }
begun_fits p sum part parts (from_image i) large sum_fits part_fits parts_fit = record { sum_fits = sum_fits; part_fits = part_fits; parts_fit = parts_fit; read_fits = tt }
begun_fits p sum part parts (from_forward b x) large sum_fits part_fits parts_fit = record { sum_fits = sum_fits; part_fits = part_fits; parts_fit = parts_fit; read_fits = tt }

pub next_fits : (p : ℕ) (sum : Row) (parts : List Part) → 1 < p → IsReduced ◌<◌ p sum → All (FitsPart p) parts → FitsHand p (next_hand sum parts)
next_fits p sum [] large sum_fits parts_fit = record { vector_fits = sum_fits; read_fits = tt }
next_fits p sum (part ∷ parts) large sum_fits parts_fit =
    begun_fits p sum part parts part.beginning large sum_fits (All-head (FitsPart p) part parts parts_fit) (All-tail (FitsPart p) part parts parts_fit)

-- the parts of a job

coefficients_fit : {K : Type 0} (before : K → K → Type 0) (p : ℕ) (f : K × ℕ → Part) (v : Combination K) → ((t : K × ℕ) → (f t).coefficient ≡ t.1) → IsReduced before p v → All (FitsPart p) (map f v)
coefficients_fit {K} before p f v same reduced =
    All-map (FitsPart p) f v (All-weaker (λ (t : K × ℕ). t.1 < p) (λ (t : K × ℕ). FitsPart p (f t)) (λ t residue. subst (λ n. n < p) (sym (same t)) residue) v (residues_of before p v reduced))

pub job_fits : (T : ActionTable) (job : Job) → IsSound T → HasRelation T job → All (FitsPart (presented T).prime) (parts_of T job)
job_fits T (relator_job b number) sound within =
    coefficients_fit ShortlexLetters (presented T).prime (λ t. record { beginning = from_id b; letters = t.0; coefficient = t.1 }) (relator (presented T) number) (λ t. refl)
    (All-get_or (λ (r : AlgebraElement). IsReduced ShortlexLetters (presented T).prime r) (relators (presented T)) number [] within (relators_reduced (presented T) sound.valid.presentation))
job_fits T (submodule_job number) sound within =
    coefficients_fit Shortlex (presented T).prime (λ t. record { beginning = from_image (start t.0); letters = letters t.0; coefficient = t.1 }) (submodule_relation (presented T) number) (λ t. refl)
    (sound.valid.presentation.submodule number [] within).0
job_fits T (image_job b x) sound within =
    All-cons (FitsPart (presented T).prime) (record { beginning = from_forward b x; letters = x ∷ []; coefficient = 1 }) [] (prime-large (presented T).prime sound.valid.presentation.field) (All-nil (FitsPart (presented T).prime))

pub job_hand_fits : (T : ActionTable) (job : Job) → IsSound T → HasRelation T job → FitsHand (presented T).prime (next_hand [] (parts_of T job))
job_hand_fits T job sound has =
    next_fits (presented T).prime [] (parts_of T job) (prime-large (presented T).prime sound.valid.presentation.field) (none_fits (presented T).prime) (job_fits T job sound has)

-- reads

module _ (T : ActionTable) (sound : IsSound T) where
  abbrev p : ℕ
  p = (presented T).prime

  prime_large : 1 < p
  prime_large = prime-large p sound.valid.presentation.field

  forward_fits : (b : ℕ) (forward : Row) → slice_index_or T.forwards b None ≡ Some forward → IsReduced ◌<◌ p forward
  forward_fits b =
      at_or (λ (o : Option Row). (forward : Row) → o ≡ Some forward → IsReduced ◌<◌ p forward) T.forwards None (λ forward same. cc)
      (λ c o found forward same. (sound.forwards c forward (found ∙ ap Some same)).stands.row.0) b

  row_fits : (b x : ℕ) (row : Option Row) → row_at T b x ≡ row → IsReduced ◌<◌ p (row_or_zero (λ c y. row) x b)
  row_fits b x None is = none_fits p
  row_fits b x (Some row) is = (sound.rows b x row is).stands.row.0

  found_fits : (left : List ℕ) (b : ℕ) (forward : Option Row) → slice_index_or T.forwards b None ≡ forward → FitsFound p (found_at (of_table T) left b forward)
  found_fits left b (Some forward) is = forward_fits b forward is
  found_fits [] b None is = tt
  found_fits (x ∷ left) b None is = row_fits b x (row_at T b x) refl

  founds_fit : (left : List ℕ) (vector : Row) → All (FitsFound p) (found_for (of_table T) left vector)
  founds_fit left [] = All-nil (FitsFound p)
  founds_fit left (t ∷ vector) =
      All-cons (FitsFound p) (found_at (of_table T) left t.0 (slice_index_or T.forwards t.0 None)) (found_for (of_table T) left vector)
      (found_fits left t.0 (slice_index_or T.forwards t.0 None) refl) (founds_fit left vector)

  image_fits : (i : ℕ) → IsReduced ◌<◌ p (slice_index_or T.images i [])
  image_fits i = at_or (IsReduced ◌<◌ p) T.images [] (none_fits p) (λ j v found. (sound.images j v found).stands.row.0) i

  stand_in_fits : (b : ℕ) (forward : Option Row) → slice_index_or T.forwards b None ≡ forward → IsReduced ◌<◌ p (unwrap_or forward (unit b))
  stand_in_fits b None is = unit_reduced p b prime_large
  stand_in_fits b (Some forward) is = forward_fits b forward is

  beginning_fits : (beginning : Beginning) → FitsReading p (read_for (of_table T) beginning)
  beginning_fits (from_id b) = tt
  beginning_fits (from_image i) = image_fits i
  beginning_fits (from_forward b x) = (row_fits b x (row_at T b x) refl, stand_in_fits b (slice_index_or T.forwards b None) refl)

  pub read_fits : (hand : Hand) → FitsHand p hand → FitsHand p (read_hand (of_table T) hand)
  read_fits empty_hand fits = tt
  read_fits (beginning_hand sum part parts reading) fits = record { sum_fits = fits.sum_fits; part_fits = fits.part_fits; parts_fit = fits.parts_fit; read_fits = beginning_fits part.beginning }
  read_fits (tracing_hand sum coefficient parts vector left reading) fits = record {
    sum_fits = fits.sum_fits;
    residue = fits.residue;
    parts_fit = fits.parts_fit;
    vector_fits = fits.vector_fits;
    read_fits = founds_fit left vector;
  }
  read_fits (summed_hand vector reading) fits = record { vector_fits = fits.vector_fits; read_fits = founds_fit [] vector }

-- repairs, and what is applied

pub repaired_fits : (p : ℕ) (hand next : Hand) → FitsHand p hand → Repairs p hand next → FitsHand p next
repaired_fits p hand next fits (repairs_part sum coefficient parts vector after left founds some reduced) =
    record { sum_fits = fits.sum_fits; residue = fits.residue; parts_fit = fits.parts_fit; vector_fits = reduced.reduced; read_fits = tt }
repaired_fits p hand next fits (repairs_sum vector after founds some reduced) = record { vector_fits = reduced.reduced; read_fits = tt }

pub applied_fits : (p : ℕ) (hand next : Hand) → 1 < p → FitsHand p hand → Applies p hand next → FitsHand p next
applied_fits p hand next large fits (begins_image sum part parts image) =
    record { sum_fits = fits.sum_fits; residue = fits.part_fits; parts_fit = fits.parts_fit; vector_fits = fits.read_fits; read_fits = tt }
applied_fits p hand next large fits (begins_forward sum after vector part parts row forward first second) =
    record { sum_fits = first.reduced; residue = fits.part_fits; parts_fit = fits.parts_fit; vector_fits = second.reduced; read_fits = tt }
applied_fits p hand next large fits (multiplies sum coefficient parts vector after x left founds rows_alone reduced) =
    record { sum_fits = fits.sum_fits; residue = fits.residue; parts_fit = fits.parts_fit; vector_fits = reduced.reduced; read_fits = tt }
applied_fits p hand next large fits (sums sum after coefficient parts vector reading reduced) = next_fits p after parts large reduced.reduced fits.parts_fit
