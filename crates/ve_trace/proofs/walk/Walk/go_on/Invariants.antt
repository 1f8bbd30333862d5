use Rattle.std.proofs.Common.{◌≡◌, ◌+◌, length}
use Rattle.ve_theory.specs.Combinations.{unit}
use Rattle.ve_trace.specs.Prefixes.{ArePrefixes}
use Rattle.ve_trace.proofs.walk.Walk.go_on.Given as goal

abbrev pub invariant-loop-at : goal.invariant-loop-at
invariant-loop-at g l =
    ArePrefixes l.field (g.R.Rows.rows l.rows) (unit l.fn.self.id) l.letters l.self.products.items
    × (l.self.id ≡ l.fn.self.id)
    × (length l.self.products.items ≡ l.at + 1)
