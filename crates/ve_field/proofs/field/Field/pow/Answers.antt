use Rattle.std.proofs.Common.{◌≡◌, ◌+◌, ◌/◌, arith}
use Rattle.ve_field.proofs.Powers.{even_step, odd_step}
use Rattle.ve_field.proofs.field.Field.pow.Goals as goal
use Rattle.ve_field.proofs.field.Field.pow.Goals.{then-left-eq1, else-left-eq1}

pub loop-left-preserved : goal.loop-left-preserved
loop-left-preserved c =
    let half = c.loop-left.left / 2 in
    elim c.if-left-eq1.branch [
      | then-left-eq1 w ↦
          let odd : c.loop-left.left ≡ half + half + 1 = omega arith in (
            rw w.power-is w.mul-power.ensures.residue,
            c.mul-base.ensures.residue,
            rw (w.power-is, w.mul-power.ensures.product, c.mul-base.ensures.product, odd_step) (rw (← odd) c.loop-left.invariant.2),
          )
      | else-left-eq1 w ↦
          let even : c.loop-left.left ≡ half + half = omega arith in (
            rw w.power-is c.loop-left.invariant.0,
            c.mul-base.ensures.residue,
            rw (w.power-is, c.mul-base.ensures.product, even_step) (rw (← even) c.loop-left.invariant.2),
          )
    ]
