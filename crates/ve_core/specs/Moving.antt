-- What calls do to the machine.
use Rattle.std.specs.Prelude.{◌≡◌, ℕ, ◌+◌, ◌++◌, [], ◌∷◌, Bool, IsFalse, IsTrue, List}
use Rattle.ve_machine.specs.Machines.{Event, IsEnabled, Machine, Move}
use Rattle.ve_machine.specs.Allowed.{IsAllowed}

-- The event is tried: it is done, or it isn't allowed and the machine stays as it is.
pub record Tries (M : Machine) (event : Event) (moved : Bool) (N : Machine) : Type 0 where
  pub moves : IsTrue moved → Move M event N
  pub refused : IsFalse moved → ¬ IsAllowed M event
  pub stays : IsFalse moved → N ≡ M

-- The event is done where it is enabled, and elsewhere the machine stays as it is.
pub record Steps (M : Machine) (event : Event) (moved : Bool) (N : Machine) : Type 0 where
  pub moves : IsTrue moved → Move M event N
  pub disabled : IsFalse moved → ¬ IsEnabled M event
  pub stays : IsFalse moved → N ≡ M

-- One event after another, and how many of them were enabled.
pub data Counts (M : Machine) : List Event → ℕ → Machine → Type 0 where
  nowhere : Counts M [] 0 M
  further : (events : List Event) (event : Event) (count : ℕ) (N K : Machine) → Counts M events count N → Move N event K → Counts M (events ++ event ∷ []) (count + 1) K
  passed_over : (events : List Event) (event : Event) (count : ℕ) (N : Machine) → Counts M events count N → ¬ IsEnabled N event → Counts M (events ++ event ∷ []) count N
