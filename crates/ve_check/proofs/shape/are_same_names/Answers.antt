use Rattle.std.proofs.Common.{refl, arith}
use Rattle.ve_check.proofs.SameNames.{same_names}
use Rattle.ve_check.proofs.shape.are_same_names.Goals as goal

pub returns : goal.returns
returns c = (
  λ passes. same_names c.args.names.now c.args.others.now (omega (arith, c.count.ensures.count, c.count-2.ensures.count, c.if-count.false))
      (λ k within. c.loop-letter.invariant k (omega (arith, c.count-letter-end.ensures.count))),
  λ same. refl,
)
