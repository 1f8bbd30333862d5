use Rattle.std.proofs.Common.{refl}
use Rattle.ve_answers.proofs.TextEnds.{no_lines}
use Rattle.ve_answers.proofs.lines.Lines.next.Goals as goal

pub returns-in_default-clause-err : goal.returns-in_default-clause-err
returns-in_default-clause-err c = (no_lines c.args.self.now.rest.now (c.in_default.ensures.none.0 refl), c.refusal.ensures)
