use Rattle.std.proofs.Common.{IsTrue, nat_eq}
use Rattle.std.specs.BinaryHeap.{heap_items}
use Rattle.ve_theory.proofs.Sums.{Alike_from_weights}
use Rattle.ve_settle.proofs.Vectors.{term_residue}
use Rattle.ve_settle.proofs.SortedTerms.{behind_next, next_all, next_below, next_taken, nothing_taken}
use Rattle.ve_settle.proofs.falling.FallingSum.take_sorted.Goals as goal

pub returns-then-self-len-clause-sum : goal.returns-then-self-len-clause-sum
returns-then-self-len-clause-sum c = Alike_from_weights nat_eq (nothing_taken _ c.args.id _)

pub returns-then-next-id-clause-sum : goal.returns-then-next-id-clause-sum
returns-then-next-id-clause-sum c = Alike_from_weights nat_eq (nothing_taken _ c.args.id _)

pub returns-then-next-id-clause-below : goal.returns-then-next-id-clause-below
returns-then-next-id-clause-below c =
    next_below _ c.args.self.now.sorted (heap_items c.args.self.now.loose.terms) c.args.self.now.taken c.args.id _ c.args.self.now.reduced c.term-next.ensures c.requires c.if-next-id.true

pub returns-clause-residue : goal.returns-clause-residue
returns-clause-residue c = (term_residue _ _ _ _ c.args.self.now.reduced c.term-next.ensures).1

pub returns-clause-sum : goal.returns-clause-sum
returns-clause-sum c =
    Alike_from_weights nat_eq
    (rw (← c.if-next-id.false, c.leave_next.ensures.rest, c.leave_next.ensures.loose)
    (next_taken _ c.args.self.now.sorted (heap_items c.args.self.now.loose.terms) c.args.self.now.taken _ c.term-next.ensures))

pub returns-clause-below : goal.returns-clause-below
returns-clause-below c = rw (← c.if-next-id.false, c.leave_next.ensures.rest) (behind_next _ _ _ _ c.args.self.now.reduced c.term-next.ensures)

pub returns-clause-ids : goal.returns-clause-ids
returns-clause-ids c =
    rw (c.leave_next.ensures.rest, c.leave_next.ensures.loose)
    (λ among all.
    (next_all (λ t. IsTrue (among t.0)) c.args.self.now.sorted (heap_items c.args.self.now.loose.terms) c.args.self.now.taken _ c.term-next.ensures all).1)
