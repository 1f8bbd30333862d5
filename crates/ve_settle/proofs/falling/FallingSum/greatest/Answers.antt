use Rattle.std.proofs.Common.{◌≤◌, ℕ, IsTrue, arith}
use Rattle.std.specs.BinaryHeap.{heap_items}
use Rattle.std.proofs.lemmas.List.Elements.{All-nil, All-append, All-weaker}
use Rattle.ve_settle.proofs.SortedTerms.{greater_passes, next_all, parts_all, passes_behind, up_to_next}
use Rattle.ve_settle.proofs.falling.FallingSum.greatest.Goals as goal

pub returns-then-self-len-clause-ids : goal.returns-then-self-len-clause-ids
returns-then-self-len-clause-ids c = passes_behind _ _ _ c.greatest-loose.ensures.ids

pub returns-in-Some-clause-upper : goal.returns-in-Some-clause-upper
returns-in-Some-clause-upper c =
    let m : ℕ = c.max.result in
    All-append (λ (t : ℕ × ℕ). t.0 ≤ m) _ _
    (up_to_next _ _ _ m _ c.args.self.now.reduced c.term-next.ensures (omega (arith, c.max.ensures)))
    (All-weaker (λ (t : ℕ × ℕ). t.0 ≤ c.in-Some.id) (λ (t : ℕ × ℕ). t.0 ≤ m) (λ t le. omega (arith, le, c.max.ensures)) _ c.in-Some.ensures.upper)

pub returns-in-Some-clause-ids : goal.returns-in-Some-clause-ids
returns-in-Some-clause-ids c =
    λ among all.
    rw c.max.ensures
    (greater_passes among _ _ (c.in-Some.ensures.ids among (parts_all (λ t. IsTrue (among t.0)) _ _ all).1)
    (next_all (λ t. IsTrue (among t.0)) c.args.self.now.sorted (heap_items c.args.self.now.loose.terms) c.args.self.now.taken _ c.term-next.ensures all).0)

pub returns-in-None-clause-upper : goal.returns-in-None-clause-upper
returns-in-None-clause-upper c =
    let m : ℕ = c.term-next.result.id in
    All-append (λ (t : ℕ × ℕ). t.0 ≤ m) _ _ (up_to_next _ _ _ m _ c.args.self.now.reduced c.term-next.ensures (omega arith))
    (rw c.in-None.ensures.none (All-nil (λ (t : ℕ × ℕ). t.0 ≤ m)))

pub returns-in-None-clause-ids : goal.returns-in-None-clause-ids
returns-in-None-clause-ids c =
    λ among all.
    (next_all (λ t. IsTrue (among t.0)) c.args.self.now.sorted (heap_items c.args.self.now.loose.terms) c.args.self.now.taken _ c.term-next.ensures all).0
