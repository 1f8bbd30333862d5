use Rattle.std.proofs.Common.{◌≡◌, true}
use Rattle.ve_read.proofs.LineSteps.{faulty_behind, faulty_line, known_fault}
use Rattle.ve_read.proofs.lines.faulty.Goals as goal

pub returns-then-ended : goal.returns-then-ended
returns-then-ended c = λ draft line ended fails. faulty_behind draft line c.args.fault (ended.0 c.if-ended.true) (known_fault c.args.fault c.in-BadByte.is) fails

pub returns-else-ended : goal.returns-else-ended
returns-else-ended c = λ draft line ended fails.
    let going = c.if-ended.false in
    faulty_line draft line c.args.fault (λ at_end. let at : c.args.ended ≡ true = ended.1 at_end in cc) (known_fault c.args.fault c.in-BadByte.is) fails
