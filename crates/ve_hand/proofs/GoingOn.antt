-- What comes of repairs, and of what is applied: from vectors to hands.
use Rattle.std.proofs.Common.{◌≡◌, ◌≢◌, ℕ, ◌<◌, nat_eq, None, Some, List, [], ◌∷◌, ◌++◌, drop, map, Bool, true, false, IsTrue, refl, sym, ap, subst, ◌∙◌}
use Rattle.std.specs.Prelude.{◌↔◌}
use Rattle.ve_theory.specs.Combinations.{scaled, IsReducedOf}
use Rattle.ve_theory.specs.Answers.{Row}
use Rattle.ve_theory.proofs.Sums.{SameWeights-refl}
use Rattle.ve_machine.specs.Hands.{Hand, Part, Reading, beginning_hand, next_hand, summed_hand, tracing_hand, unread}
use Rattle.ve_machine.specs.HandSteps.{Applies, begins_forward, begins_image, multiplies, repairs_part, repairs_sum, sums}
use Rattle.ve_machine.specs.Allowed.{CanApply, CanRepair}
use Rattle.ve_machine.proofs.EnabledEvents.{apply_allowed, repair_allowed}
use Rattle.ve_machine.proofs.ReducedSums.{joined}
use Rattle.ve_hand.specs.declared.read_vector.ReadVector.{ReadVector}
use Rattle.ve_hand.specs.declared.starting.Starting.{Starting}
use Rattle.ve_hand.specs.declared.tracing.Tracing.{Tracing}
use Rattle.ve_hand.specs.declared.starting.StartRead.{StartRead}
use Rattle.ve_hand.specs.declared.starting.StartRead.TheVariants.{Forward, Image}
use Rattle.ve_hand.specs.Parts.{part_of}
use Rattle.ve_hand.specs.Fits.{FitsHand}
use Rattle.ve_hand.specs.Views.{reading_of, start_of, starting_of, tracing_of}
use Rattle.ve_hand.proofs.Fitting.{applied_fits}
use Rattle.ve_hand.specs.Outcomes.{AppliesHand, BeginsVector, MultipliesVector, RepairsHand, RepairsVector, SumsRead}

-- true exactly where the hand can be repaired, or can go on

pub repair_told : (p : ℕ) (old new : Hand) (had : Bool) → RepairsHand p old had new → (IsTrue had ↔ CanRepair old)
repair_told p old new true repairs = (λ _. repair_allowed p old new repairs, λ _. refl)
repair_told p old new false stays = (λ told. cc, λ can. absurd (stays.1 can))

pub apply_told : (p : ℕ) (old new : Hand) (had : Bool) → AppliesHand p old had new → (IsTrue had ↔ CanApply old)
apply_told p old new true applies = (λ _. apply_allowed p old new applies, λ _. refl)
apply_told p old new false stays = (λ told. cc, λ can. absurd (stays.1 can))

-- from a vector to its hand

module _ (p : ℕ) (old new : ReadVector) where
  pub sum_repaired : (had : Bool) → RepairsVector p old had new → RepairsHand p (summed_hand old.vector (reading_of old)) had (summed_hand new.vector (reading_of new))
  sum_repaired true repairs = rw (repairs.was_read, repairs.unread_now) (repairs_sum old.vector new.vector repairs.founds repairs.some repairs.sum)
  sum_repaired false stays = (ap (λ v. summed_hand v.vector (reading_of v)) stays.0, stays.1)

  module _ (sum : Row) (coefficient : ℕ) (parts : List Part) where
    pub part_repaired : (left : List ℕ) (had : Bool) → RepairsVector p old had new
        → RepairsHand p (tracing_hand sum coefficient parts old.vector left (reading_of old)) had (tracing_hand sum coefficient parts new.vector left (reading_of new))
    part_repaired left true repairs =
        rw (repairs.was_read, repairs.unread_now) (repairs_part sum coefficient parts old.vector new.vector left repairs.founds repairs.some repairs.sum)
    part_repaired left false stays = (ap (λ (v : ReadVector). tracing_hand sum coefficient parts v.vector left (reading_of v)) stays.0, stays.1)

    pub part_multiplied : (letters left : List ℕ) → letters ≢ [] → left ≡ drop 1 letters → MultipliesVector p old true new
        → Applies p (tracing_hand sum coefficient parts old.vector letters (reading_of old)) (tracing_hand sum coefficient parts new.vector left (reading_of new))
    part_multiplied [] left some is multiplied = absurd (some refl)
    part_multiplied (x ∷ letters) left some is multiplied =
        rw (is, multiplied.was_read, multiplied.unread_now)
        (multiplies sum coefficient parts old.vector new.vector x letters multiplied.founds multiplied.rows_alone multiplied.sum)

    pub part_waits : (letters : List ℕ) → letters ≢ [] → MultipliesVector p old false new
        → AppliesHand p (tracing_hand sum coefficient parts old.vector letters (reading_of old)) false (tracing_hand sum coefficient parts new.vector letters (reading_of new))
    part_waits [] some stays = absurd (some refl)
    part_waits (y ∷ letters) some stays = (ap (λ (v : ReadVector). tracing_hand sum coefficient parts v.vector (y ∷ letters) (reading_of v)) stays.0, stays.1)

-- a part begins with what was read for it
pub part_begun : (p : ℕ) (sum next vector : Row) (part : Part) (parts : List Part) (read : StartRead) → SumsRead p (Some read) sum next → BeginsVector p read vector
    → Applies p (beginning_hand sum part parts (start_of (Some read))) (tracing_hand next part.coefficient parts vector part.letters unread)
part_begun p sum next vector part parts (Image image) same is = rw (same, is) (begins_image sum part parts image)
part_begun p sum next vector part parts (Forward row forward) summed is = begins_forward sum next vector part parts row forward summed is

-- a part without letters is summed
pub part_summed : (p : ℕ) (sum next : Row) (coefficient : ℕ) (parts : List Part) (vector : Row) (left : List ℕ) (reading : Reading) (hand : Hand) → left ≡ []
    → hand ≡ next_hand next parts → IsReducedOf ◌<◌ nat_eq p next (sum ++ scaled coefficient vector) → Applies p (tracing_hand sum coefficient parts vector left reading) hand
part_summed p sum next coefficient parts vector left reading hand none is reduced = rw (none, is) (sums sum next coefficient parts vector reading reduced)

-- the row that was read is added
pub row_summed : (p : ℕ) (read : StartRead) (sum next row forward : Row) → read ≡ Forward row forward → IsReducedOf ◌<◌ nat_eq p next (sum ++ scaled 1 row) → SumsRead p (Some read) sum next
row_summed p read sum next row forward is summed = rw is (joined p sum row next (sum ++ row) (SameWeights-refl p (sum ++ row)) summed)

pub stage_begun : (p : ℕ) (old new : Starting) (read : StartRead) (next : Tracing) → new ≡ record old { sum = new.sum } → new.read ≡ Some read → SumsRead p old.read old.sum new.sum
    → BeginsVector p read next.product.vector → next.sum ≡ new.sum → next.coef ≡ new.part.coef → next.parts ≡ new.parts → next.letters ≡ new.part.letters → next.product.founds ≡ None
    → Applies p (starting_of old) (tracing_of next)
stage_begun p old new read next same was_read summed begins sum_is coef_is parts_are letters_are unread_is =
    let is_read : old.read ≡ Some read = sym (ap (λ (s : Starting). s.read) same) ∙ was_read in
    let coef_was : next.coef ≡ old.part.coef = coef_is ∙ ap (λ (s : Starting). s.part.coef) same in
    let parts_were : next.parts ≡ old.parts = parts_are ∙ ap (λ (s : Starting). s.parts) same in
    let letters_were : next.letters ≡ old.part.letters = letters_are ∙ ap (λ (s : Starting). s.part.letters) same in
    rw (is_read, sum_is, coef_was, parts_were, letters_were, unread_is)
    (part_begun p old.sum new.sum next.product.vector (part_of old.part) (map part_of old.parts.items) read (rw is_read at summed) begins)

-- hands over a field stay so

pub applied_hand_fits : (p : ℕ) (old new : Hand) (had : Bool) → 1 < p → FitsHand p old → AppliesHand p old had new → FitsHand p new
applied_hand_fits p old new true large fits applies = applied_fits p old new large fits applies
applied_hand_fits p old new false large fits stays = subst (FitsHand p) (sym stays.0) fits
