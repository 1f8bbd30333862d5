use Rattle.std.proofs.Common.{sym}
use Rattle.std.proofs.lemmas.Bool.{ltb-true}
use Rattle.ve_vec.proofs.Joining.{join_ends}
use Rattle.ve_vec.proofs.merge.comes_before.Goals as goal

pub returns-in-Some-Some : goal.returns-in-Some-Some
returns-in-Some-Some c =
    λ less p left right.
    join_ends p c.args.terms.now c.args.others.now c.in-Some-Some.last.now c.in-Some-Some.first.now (sym c.in-Some-Some.ensures.value) (sym c.in-Some-Some.ensures'.value) (ltb-true _ _ less) left right
