-- What comes of a call that repairs a hand or lets it go on.
use Rattle.std.specs.Prelude.{◌≡◌, ℕ, ◌-◌, ◌<◌, ◌++◌, All, Bool, false, true, List, None, Option, Some, nat_eq}
use Rattle.ve_theory.specs.Combinations.{IsReducedOf, scaled}
use Rattle.ve_theory.specs.Answers.{Row}
use Rattle.ve_machine.specs.Hands.{Found, Hand, read_ids, unread}
use Rattle.ve_machine.specs.HandSteps.{Applies, HasForwards, IsRowFound, Repairs, multiplied_by, repaired}
use Rattle.ve_machine.specs.Allowed.{CanApply, CanRepair, HasReadForwards, HasReadRows}
use Rattle.ve_hand.specs.declared.starting.StartRead.{StartRead}
use Rattle.ve_hand.specs.declared.starting.StartRead.TheVariants.{Forward, Image}
use Rattle.ve_hand.specs.declared.read_vector.ReadVector.{ReadVector}
use Rattle.ve_hand.specs.Views.{reading_of}

-- true where the hand was repaired; where it can't be it stays as it was
abbrev pub RepairsHand : (p : ℕ) → Hand → Bool → Hand → Type 0
RepairsHand p old true new = Repairs p old new
RepairsHand p old false new = (new ≡ old) × (¬ CanRepair old)

-- true where the hand went on
abbrev pub AppliesHand : (p : ℕ) → Hand → Bool → Hand → Type 0
AppliesHand p old true new = Applies p old new
AppliesHand p old false new = (new ≡ old) × (¬ CanApply old)

-- the forwards that were read are put in their ids' places
pub record RepairsByRead (p : ℕ) (old new : ReadVector) : Type 0 where
  pub founds : List Found
  pub was_read : reading_of old ≡ read_ids founds
  pub some : HasForwards founds
  pub sum : IsReducedOf ◌<◌ nat_eq p new.vector (repaired founds old.vector)
  pub unread_now : reading_of new ≡ unread

abbrev pub RepairsVector : (p : ℕ) → ReadVector → Bool → ReadVector → Type 0
RepairsVector p old true new = RepairsByRead p old new
RepairsVector p old false new = (new ≡ old) × (¬ HasReadForwards (reading_of old))

-- the rows that were read are summed
pub record MultipliesByRead (p : ℕ) (old new : ReadVector) : Type 0 where
  pub founds : List Found
  pub was_read : reading_of old ≡ read_ids founds
  pub rows_alone : All IsRowFound founds
  pub sum : IsReducedOf ◌<◌ nat_eq p new.vector (multiplied_by founds old.vector)
  pub unread_now : reading_of new ≡ unread

abbrev pub MultipliesVector : (p : ℕ) → ReadVector → Bool → ReadVector → Type 0
MultipliesVector p old true new = MultipliesByRead p old new
MultipliesVector p old false new = (new ≡ old) × (¬ HasReadRows (reading_of old))

-- a part begins with the image that was read, or with the negative of the forward
abbrev pub BeginsVector : (p : ℕ) → StartRead → Row → Type 0
BeginsVector p (Image image) v = v ≡ image
BeginsVector p (Forward row forward) v = IsReducedOf ◌<◌ nat_eq p v (scaled (p - 1) forward)

-- the row that was read is added to the sum of the parts before
abbrev pub SumsRead : (p : ℕ) → Option StartRead → Row → Row → Type 0
SumsRead p None old new = new ≡ old
SumsRead p (Some (Image image)) old new = new ≡ old
SumsRead p (Some (Forward row forward)) old new = IsReducedOf ◌<◌ nat_eq p new (old ++ row)
