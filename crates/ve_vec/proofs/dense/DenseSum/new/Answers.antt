use Rattle.std.proofs.Common.{◌+◌, ◌-◌}
use Rattle.ve_vec.proofs.Spanning.{zeros}
use Rattle.ve_vec.proofs.dense.DenseSum.new.Goals as goal

pub returns-clause-zero : goal.returns-clause-zero
returns-clause-zero c = rw (c.in_ok-numbers.ensures.items_if_clones_equal (λ y same. same)) (λ p. zeros p c.args.low (c.args.high - c.args.low + 1))
