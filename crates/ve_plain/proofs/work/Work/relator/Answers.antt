use Rattle.ve_machine.specs.Jobs.{relator_value}
use Rattle.ve_machine.proofs.Forwardings.{positive_prime}
use Rattle.ve_plain.proofs.Going.{Continues-trans}
use Rattle.ve_plain.proofs.Known.{relator_known}
use Rattle.ve_plain.proofs.Settling.{settles_after}
use Rattle.ve_plain.proofs.work.Work.relator.Goals as goal

pub returns-in_err-settle-clause-continues : goal.returns-in_err-settle-clause-continues
returns-in_err-settle-clause-continues c = Continues-trans _ _ _ c.impose.ensures.continues c.settle.ensures.continues

pub returns-clause-continues : goal.returns-clause-continues
returns-clause-continues c = Continues-trans _ _ _ c.impose.ensures.continues c.settle.ensures.continues

pub returns-clause-settles : goal.returns-clause-settles
returns-clause-settles c = settles_after c.args.self.now c.impose.new.self c.settle.new.self c.in_ok-impose.ensures.ok.lasts c.in_ok-settle.ensures.ok

pub returns-clause-done : goal.returns-clause-done
returns-clause-done c = λ O at_work.
    c.settle.ensures.continues.known O (relator_value O c.args.id c.args.number) (positive_prime O at_work.sound)
    (relator_known c.tracing_is_known.ensures O c.args.self.now c.impose.new.self c.in_ok-vector.vector at_work c.in_ok-impose.ensures.ok c.args.id c.args.number
    c.requires.id c.requires.number c.requires.due c.in_ok-vector.ensures.traced.alike)
