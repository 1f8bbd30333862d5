use Rattle.std.proofs.Common.{rules, ◌<◌}
use Rattle.ve_settle.proofs.Heaps.{left_all}
use Rattle.ve_settle.proofs.heap.TermHeap.pop_at.Goals as goal

pub invariant_of-self : goal.invariant_of-self
invariant_of-self c = record {
  ordered = search rules;
  residues = left_all _ (λ t. t.1 < c.args.self.now.field) c.pop.result _ _ c.pop.ensures.permutation c.pop.ensures.unchanged c.args.self.now.residues;
}
