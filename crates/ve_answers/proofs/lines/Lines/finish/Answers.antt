use Rattle.std.proofs.Common.{[], subst, sym}
use Rattle.ve_answers.specs.Steps.{Refuses}
use Rattle.ve_answers.proofs.Steps.{behind_refused}
use Rattle.ve_answers.proofs.TextEnds.{empty_has_no_lines, some_text_has_a_line}
use Rattle.ve_answers.proofs.lines.Lines.finish.Goals as goal

pub returns-then-is_empty-clause-ok : goal.returns-then-is_empty-clause-ok
returns-then-is_empty-clause-ok c = empty_has_no_lines c.args.self.now.rest.now c.if-is_empty.ensures

pub returns-clause-err : goal.returns-clause-err
returns-clause-err c = λ draft.
    let some = some_text_has_a_line c.args.self.now.rest.now c.if-is_empty.ensures in
    subst (λ refusal. Refuses draft [] c.args.self.now refusal) (sym c.refusal.ensures) (behind_refused c.args.self.now some.0 some.1 some.2 draft)
