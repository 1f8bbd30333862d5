-- What is kept after a move.
use Rattle.std.proofs.Common.{◌≡◌, ℕ, Bool, true, false, List, All, refl, sym, subst}
use Rattle.std.proofs.Math.ListN.{set}
use Rattle.std.specs.Prelude.{length, ◌<◌}
use Rattle.std.proofs.lemmas.List.Elements.{All-set}
use Rattle.std.proofs.lemmas.Option.{slice_get_within}
use Rattle.ve_table.specs.Tables.{presented}
use Rattle.ve_machine.specs.Seats.{Desk, HasDesk, present}
use Rattle.ve_machine.specs.Hands.{Hand}
use Rattle.ve_machine.specs.Machines.{Event, IsRightMachine, Machine, Move}
use Rattle.ve_machine.specs.SharedLaws.{MovesGoRight}
use Rattle.ve_hand.specs.Fits.{FitsHand}
use Rattle.ve_core.specs.declared.state.CoreState.TheInside.{Inside}
use Rattle.ve_core.specs.Moving.{Tries}
use Rattle.ve_core.specs.Apart.{AreApart}
use Rattle.ve_core.proofs.Apart.{apart_after}
use Rattle.ve_core.specs.Kept.{IsKept, machine_of}

pub kept_after : MovesGoRight → (s t : Inside) (event : Event) → IsKept s → Move (machine_of s) event (machine_of t) → t.table ≡ present (machine_of t).shared
    → All (FitsHand (presented t.table).prime) t.hands.items → IsKept t
kept_after go s t event kept move table hands = record {
  right = (go (machine_of s) (machine_of t) event kept.right move).machine;
  table = table;
  hands = hands;
  apart = apart_after (machine_of s) event (machine_of t) move kept.apart;
}

-- and after an event that was tried
pub kept_tried : MovesGoRight → (s t : Inside) (event : Event) (moved : Bool) → IsKept s → Tries (machine_of s) event moved (machine_of t) → t.table ≡ present (machine_of t).shared
    → All (FitsHand (presented t.table).prime) t.hands.items → IsKept t
kept_tried go s t event true kept tried table hands = kept_after go s t event kept (tried.moves refl) table hands
kept_tried go s t event false kept tried table hands = record {
  right = subst IsRightMachine (sym (tried.stays refl)) kept.right;
  table = table;
  hands = hands;
  apart = subst (λ (M : Machine). AreApart M.shared.done M.shared.desks) (sym (tried.stays refl)) kept.apart;
}

-- a seat with a desk has a place among the hands
pub seat_has_hand : (M : Machine) → IsRightMachine M → (seat : ℕ) (desk : Desk) → HasDesk M.shared seat desk → seat < length M.hands
seat_has_hand M right seat desk on_desk =
    let hand = right.right seat desk on_desk in
    slice_get_within M.hands seat hand.0 hand.1

-- one hand changes
pub fit_but : (p seat : ℕ) (hand : Hand) (hands : List Hand) → FitsHand p hand → All (FitsHand p) hands → All (FitsHand p) (set hands seat hand)
fit_but p seat hand hands fits all = All-set (FitsHand p) hands seat hand fits all
