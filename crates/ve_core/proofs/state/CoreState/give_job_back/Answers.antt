use Rattle.std.proofs.Common.{sym, subst}
use Rattle.ve_table.specs.Tables.{presented}
use Rattle.ve_machine.specs.Seats.{HasDesk, with_job}
use Rattle.ve_machine.specs.Machines.{Machine, to_return}
use Rattle.ve_core.specs.Kept.{machine_of}
use Rattle.ve_core.proofs.Keeping.{fit_but, kept_after}
use Rattle.ve_core.proofs.Moves.{job_returned}
use Rattle.ve_core.proofs.state.CoreState.give_job_back.Goals as goal

pub invariant_of-self : goal.invariant_of-self
invariant_of-self c =
    let on_desk : HasDesk (machine_of c.self.inside).shared c.args.seat (with_job c.requires.0) = subst (λ (M : Machine). HasDesk M.shared c.args.seat (with_job c.requires.0)) (sym c.self.view_is) c.requires.1 in
    kept_after c.moves_go_right.ensures c.self.inside _ (to_return c.args.seat) c.self.invariant
    (job_returned c.self.inside c.self.invariant c.args.seat c.requires.0 c.empty.result c.empty-2.result on_desk c.empty.ensures c.empty-2.ensures.value) c.self.invariant.table
    (fit_but (presented c.self.inside.table).prime c.args.seat c.empty-2.result c.self.inside.hands.items (c.empty-2.ensures.fits (presented c.self.inside.table).prime) c.self.invariant.hands)

pub returns : goal.returns
returns c =
    let on_desk : HasDesk (machine_of c.self.inside).shared c.args.seat (with_job c.requires.0) = subst (λ (M : Machine). HasDesk M.shared c.args.seat (with_job c.requires.0)) (sym c.self.view_is) c.requires.1 in
    rw (← c.self.view_is) (job_returned c.self.inside c.self.invariant c.args.seat c.requires.0 c.empty.result c.empty-2.result on_desk c.empty.ensures c.empty-2.ensures.value)
