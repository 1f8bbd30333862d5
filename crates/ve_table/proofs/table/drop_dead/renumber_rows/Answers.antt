use Rattle.std.proofs.Common.{◌-◌, length, refl, arith}
use Rattle.ve_table.proofs.Unmoved.{all_renumbered}
use Rattle.ve_table.proofs.table.drop_dead.renumber_rows.Goals as goal

pub returns : goal.returns
returns c =
    all_renumbered c.args.numbers.now c.args.least c.min-start.result (length c.args.rows.now - c.min-start.result) c.args.rows.now c.renumber_vectors.new.vectors c.requires.least (omega (arith, c.min-start.ensures)) refl c.renumber_vectors.ensures
    (λ k lt. c.requires.start k (omega (arith, lt, c.min-start.ensures)))
