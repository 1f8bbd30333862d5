-- What the state keeps, and what contracts see of it.
use Rattle.std.specs.Prelude.{◌≡◌, All, map}
use Rattle.ve_table.specs.Tables.{presented}
use Rattle.ve_machine.specs.Forwards.{Forwards, stand_in}
use Rattle.ve_machine.specs.Seats.{Death, present}
use Rattle.ve_machine.specs.Machines.{IsRightMachine, Machine}
use Rattle.ve_hand.specs.Fits.{FitsHand}
use Rattle.ve_core.specs.Apart.{AreApart}
use Rattle.ve_core.specs.declared.entry.Entry.{Entry}
use Rattle.ve_core.specs.declared.state.CoreState.TheInside.{Inside}

-- the death of an entry, with the forward that the table has
abbrev pub death_of : Forwards → Entry → Death
death_of forwards entry = record { seat = entry.seat; id = entry.id; forward = stand_in forwards entry.id }

abbrev pub machine_of : Inside → Machine
machine_of s = record {
  shared = record {
    opening = s.opening.value;
    forwards = s.table.forwards;
    rows = s.table.rows;
    done = s.done;
    queue = s.queue.items;
    desks = s.desks.items;
    journal = map (death_of s.table.forwards) s.journal.items;
  };
  hands = s.hands.items;
}

-- The machine is right, the table is the machine's, and all hands fit the field. No job is on two desks, and none on a desk is done.
pub record IsKept (s : Inside) : Type 0 where
  pub right : IsRightMachine (machine_of s)
  pub table : s.table ≡ present (machine_of s).shared
  pub hands : All (FitsHand (presented s.table).prime) s.hands.items
  pub apart : AreApart s.done s.desks.items
