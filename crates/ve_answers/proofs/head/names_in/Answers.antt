use Rattle.ve_answers.proofs.NewNames.{no_names_with}
use Rattle.ve_answers.proofs.head.names_in.Goals as goal

pub returns-then-not-branch : goal.returns-then-not-branch
returns-then-not-branch c =
    no_names_with c.args.pieces.now c.loop-piece.piece-index _ c.loop-piece.names c.loop-piece-test.true c.loop-piece.invariant.names (c.in_ok-add_name.ensures.refused c.if-not-branch.true)
