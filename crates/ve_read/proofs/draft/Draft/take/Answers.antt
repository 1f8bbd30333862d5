use Rattle.ve_read.proofs.HeaderLines.{end_taken}
use Rattle.ve_read.proofs.draft.Draft.take.Goals as goal

pub returns-in_ok-among_relations-in-End : goal.returns-in_ok-among_relations-in-End
returns-in_ok-among_relations-in-End c = λ line is.
    let standing = c.in_ok-among_relations-in-End.ensures in
    let end = rw c.in-End.is at is in
    rw (standing.is, end, c.end.ensures) (end_taken c.in_ok-among_relations-in-End.field-0 standing.kept standing.stage)
