use Rattle.std.proofs.Common.{codes}
use Rattle.ve_formats.specs.OutgrownText.{outgrown_lines, outgrown_text}
use Rattle.ve_port.specs.Writing.{Writes-stopped}
use Rattle.ve_out.proofs.LineByLine.{Stops-line, Stops-behind, Writes-behind, Writes-last, Gains-number, Stops-number}
use Rattle.ve_out.proofs.over.write_over.Goals as goal

pub returns-in_err-put : goal.returns-in_err-put
unfolding outgrown_text outgrown_lines
returns-in_err-put g c = Writes-stopped c.from_residual.ensures.1 (Stops-line _ _ c.in_err-put.ensures.stopped)

pub returns-in_err-write_numbered : goal.returns-in_err-write_numbered
unfolding outgrown_text outgrown_lines
returns-in_err-write_numbered g c =
    Writes-stopped c.from_residual-in_err-write_numbered.ensures.1
    (Stops-behind _ _ c.in_ok-put.ensures.gained (Stops-line _ _ (Stops-number (codes "level") c.from.ensures c.in_err-write_numbered.ensures.stopped)))

pub returns-in_err-write_numbered-2 : goal.returns-in_err-write_numbered-2
unfolding outgrown_text outgrown_lines
returns-in_err-write_numbered-2 g c =
    Writes-stopped c.from_residual-in_err-write_numbered-2.ensures.1
    (Stops-behind _ _ c.in_ok-put.ensures.gained
    (Stops-behind _ _ (Gains-number (codes "level") c.from.ensures c.in_ok-write_numbered.ensures.gained) (Stops-line _ _ c.in_err-write_numbered-2.ensures.stopped)))

pub returns-in_err-write_numbered-3 : goal.returns-in_err-write_numbered-3
unfolding outgrown_text outgrown_lines
returns-in_err-write_numbered-3 g c =
    Writes-stopped c.from_residual-in_err-write_numbered-3.ensures.1
    (Stops-behind _ _ c.in_ok-put.ensures.gained
    (Stops-behind _ _ (Gains-number (codes "level") c.from.ensures c.in_ok-write_numbered.ensures.gained)
    (Stops-behind _ _ c.in_ok-write_numbered-2.ensures.gained (Stops-line _ _ (Stops-number (codes "limit") c.from-2.ensures c.in_err-write_numbered-3.ensures.stopped)))))

pub returns : goal.returns
unfolding outgrown_text outgrown_lines
returns g c =
    Writes-behind _ _ c.in_ok-put.ensures.gained
    (Writes-behind _ _ (Gains-number (codes "level") c.from.ensures c.in_ok-write_numbered.ensures.gained)
    (Writes-behind _ _ c.in_ok-write_numbered-2.ensures.gained
    (Writes-behind _ _ (Gains-number (codes "limit") c.from-2.ensures c.in_ok-write_numbered-3.ensures.gained) (Writes-last _ c.put-2.ensures))))
