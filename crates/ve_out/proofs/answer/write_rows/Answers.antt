use Rattle.std.proofs.Common.{◌<◌, ◌≤◌, ◌≡◌, [], length, arith, sym, get_or}
use Rattle.std.proofs.lemmas.Option.{get_or_from_slice_get}
use Rattle.ve_formats.specs.AnswerText.{row_line}
use Rattle.ve_port.specs.Writing.{Writes-stopped, Writes-gained}
use Rattle.ve_port.proofs.ItemLines.{Gains-line, Gains-each, Stops-each}
use Rattle.ve_out.proofs.AnswerParts.{row_at}
use Rattle.ve_out.proofs.answer.write_rows.Goals as goal

pub returns-in_err-write_row : goal.returns-in_err-write_row
returns-in_err-write_row g c =
    let rows = c.args.matrix.now in
    let inside : c.loop-at.at < length rows = omega (arith, c.size-at-end.ensures, c.loop-at-test.true) in
    Writes-stopped c.from_residual.ensures.1
    (Stops-each (row_line c.args.count) rows c.loop-at.at c.row.result.now [] inside (sym (get_or_from_slice_get rows c.loop-at.at c.row.result.now [] c.row.ensures)) c.loop-at.invariant c.in_err-write_row.ensures.stopped)

pub loop-at-preserved : goal.loop-at-preserved
loop-at-preserved g c =
    let rows = c.args.matrix.now in
    let inside : c.loop-at.at < length rows = omega (arith, c.size-at-end.ensures, c.loop-at-test.true) in
    Gains-line (row_line c.args.count) rows c.loop-at.at c.row.result.now [] inside (sym (get_or_from_slice_get rows c.loop-at.at c.row.result.now [] c.row.ensures)) c.loop-at.invariant c.in_ok-write_row.ensures.gained

pub returns : goal.returns
returns g c =
    let outside : length c.args.matrix.now ≤ c.loop-at.at = omega (arith, c.size-at-end.ensures, c.loop-at-test.false) in
    Writes-gained _ (Gains-each (row_line c.args.count) c.args.matrix.now c.loop-at.at outside c.loop-at.invariant)
