-- The state at the beginning.
use Rattle.std.proofs.Common.{◌≡◌, ℕ, [], All, map, sym, subst, ◌∙◌}
use Rattle.std.proofs.Math.ListN.{replicate}
use Rattle.std.proofs.lemmas.List.Elements.{All-replicate}
use Rattle.ve_table.specs.Tables.{ActionTable, presented}
use Rattle.ve_table.specs.Sound.{IsSound}
use Rattle.ve_machine.specs.Finished.{IsPacked}
use Rattle.ve_machine.specs.Seats.{empty_desk}
use Rattle.ve_machine.specs.Hands.{empty_hand}
use Rattle.ve_machine.specs.Machines.{IsRightMachine, nowhere, opened_machine}
use Rattle.ve_machine.specs.SharedLaws.{MachinesStayRight}
use Rattle.ve_hand.specs.Fits.{FitsHand}
use Rattle.ve_core.specs.declared.state.CoreState.TheInside.{Inside}
use Rattle.ve_core.specs.Apart.{AreApart}
use Rattle.ve_core.proofs.Apart.{apart_opened}
use Rattle.ve_core.specs.Kept.{IsKept, death_of, machine_of}

-- the fields at the beginning
pub record IsOpened (t : Inside) (O : ActionTable) (seats : ℕ) : Type 0 where
  pub table : t.table ≡ O
  pub opening : t.opening.value ≡ O
  pub done : t.done ≡ []
  pub queue : t.queue.items ≡ []
  pub desks : t.desks.items ≡ replicate seats empty_desk
  pub hands : t.hands.items ≡ replicate seats empty_hand
  pub journal : t.journal.items ≡ []

pub opened_is : (t : Inside) (O : ActionTable) (seats : ℕ) → IsOpened t O seats → machine_of t ≡ opened_machine O seats
opened_is t O seats is = λ i. record {
  shared = record {
    opening = is.opening i;
    forwards = (is.table i).forwards;
    rows = (is.table i).rows;
    done = is.done i;
    queue = is.queue i;
    desks = is.desks i;
    journal = map (death_of (is.table i).forwards) (is.journal i);
  };
  hands = is.hands i;
}

pub opened_kept : MachinesStayRight → (t : Inside) (O : ActionTable) (seats : ℕ) → IsSound O → IsPacked O → IsOpened t O seats → IsKept t
opened_kept go t O seats sound packed is = record {
  right = subst IsRightMachine (sym (opened_is t O seats is)) (go O seats [] (opened_machine O seats) sound packed nowhere);
  table = is.table ∙ (λ i. record (sym is.opening i) { forwards = (sym is.table i).forwards; rows = (sym is.table i).rows });
  hands = subst (All (FitsHand (presented t.table).prime)) (sym is.hands) (All-replicate (FitsHand (presented t.table).prime) seats empty_hand tt);
  apart = subst (λ done. AreApart done t.desks.items) (sym is.done) (subst (AreApart []) (sym is.desks) (apart_opened seats));
}
