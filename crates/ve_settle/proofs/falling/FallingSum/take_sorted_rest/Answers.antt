use Rattle.std.proofs.Common.{◌≡◌, [], ◌++◌, drop, sym, ap₂, arith}
use Rattle.std.specs.BinaryHeap.{heap_items}
use Rattle.std.proofs.lemmas.List.{drop_all}
use Rattle.ve_settle.proofs.falling.FallingSum.take_sorted_rest.Goals as goal

pub returns-clause-whole : goal.returns-clause-whole
returns-clause-whole c =
    let none : drop c.len-self.result c.args.self.now.sorted ≡ [] = drop_all c.len-self.result c.args.self.now.sorted (omega (arith, c.len-self.ensures)) in
    ap₂ (λ u v. u ++ (v ++ heap_items c.args.self.now.loose.terms)) (sym c.in_ok-rest.ensures.rest) (sym none)
