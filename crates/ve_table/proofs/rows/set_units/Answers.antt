use Rattle.std.proofs.Common.{ap, ap₂, ◌+◌, ◌*◌, ◌∙◌, arith, get_or}
use Rattle.std.proofs.Math.ListN.{set}
use Rattle.ve_theory.specs.Combinations.{unit}
use Rattle.ve_table.specs.declared.birth.Birth.{Birth}
use Rattle.ve_table.proofs.Growing.{no_births, one_more_unit}
use Rattle.ve_table.proofs.rows.set_units.Goals as goal

pub loop-birth-init : goal.loop-birth-init
loop-birth-init c = record { so_far = no_births c.args.letters c.args.first c.args.rows.now; id_is = omega arith }

pub loop-birth-preserved : goal.loop-birth-preserved
loop-birth-preserved c =
    let i = c.loop-birth.birth-index in
    let d : Birth = record { parent = 0; letter = 0 } in
    let b : Birth = get_or c.args.births.now i d in
    record {
      so_far =
          ap₂ (λ x v. set c.loop-birth.rows (b.parent * c.args.letters + x) v) c.from.ensures (c.unit.ensures.value ∙ ap unit c.loop-birth.invariant.id_is)
          ∙ ap (λ l. set l (b.parent * c.args.letters + b.letter) (unit (c.args.first + i))) c.loop-birth.invariant.so_far
          ∙ one_more_unit c.args.letters c.args.first i c.args.rows.now c.args.births.now d c.loop-birth-test.true;
      id_is = omega (arith, c.loop-birth.invariant.id_is);
    }
