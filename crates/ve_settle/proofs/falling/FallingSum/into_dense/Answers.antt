use Rattle.std.proofs.Common.{◌≡◌, ℕ, ◌<◌, ◌≤◌, ltb, nat_eq, append-nil, ◌∙◌, arith}
use Rattle.std.proofs.lemmas.Bool.{ltb-true}
use Rattle.std.proofs.lemmas.List.Elements.{All-weaker}
use Rattle.ve_theory.proofs.Remainders.{All-unit}
use Rattle.ve_theory.proofs.Sums.{SameWeights-sym, Alike_from_weights}
use Rattle.ve_settle.specs.Falling.{left_of}
use Rattle.ve_settle.proofs.Clearing.{sorted_poured, term_poured}
use Rattle.ve_settle.proofs.SortedTerms.{parts_all}
use Rattle.ve_settle.proofs.Resolving.{below_by_test, ceiling_falls, tested_below}
use Rattle.ve_settle.proofs.falling.FallingSum.into_dense.Goals as goal

pub add_scaled-requires : goal.add_scaled-requires
add_scaled-requires c =
    let parts = parts_all (λ t. t.0 < c.args.bound) c.in_ok-sorted.sorted _ (rw c.in_ok-sorted.ensures.whole at c.requires) in
    All-weaker (λ (t : ℕ × ℕ). t.0 < c.args.bound) (λ (t : ℕ × ℕ). (c.in_ok-sum.sum.low ≤ t.0) × (t.0 ≤ c.in_ok-sum.sum.high))
    (λ t less. (omega (arith, c.in_ok-sum.ensures.low), omega (arith, less, c.in_ok-sum.ensures.high))) c.in_ok-sorted.sorted parts.0

pub loop-term-init : goal.loop-term-init
loop-term-init c =
    let p : ℕ = c.args.self.field in
    let parts = parts_all (λ t. t.0 < c.args.bound) c.in_ok-sorted.sorted _ (rw c.in_ok-sorted.ensures.whole at c.requires) in
    record {
      field = c.in_ok-sorted.ensures.field;
      low = c.add_scaled.ensures.low ∙ c.in_ok-sum.ensures.low;
      high = c.add_scaled.ensures.high ∙ c.in_ok-sum.ensures.high;
      below = parts.1;
      whole = sorted_poured p _ (left_of c.args.self) c.in_ok-sum.sum.total c.add_scaled.new.self.total c.in_ok-sorted.sorted (left_of c.take_sorted_rest.new.self)
          c.in_ok-sorted.ensures.field (c.in_ok-sum.ensures.zero p) c.add_scaled.ensures.sum c.in_ok-sorted.ensures.whole;
    }

pub add_scaled-requires-in-Some : goal.add_scaled-requires-in-Some
add_scaled-requires-in-Some c =
    let id : ℕ = c.in-Some.term.id in
    let less : id < c.args.bound = ltb-true id c.args.bound (c.in-Some.ensures.ids (λ k. ltb k c.args.bound) (tested_below c.args.bound _ c.loop-term.invariant.below)).0 in
    rw c.unit.ensures.value (All-unit (λ k. (c.loop-term.sum.low ≤ k) × (k ≤ c.loop-term.sum.high)) id (omega (arith, c.loop-term.invariant.low), omega (arith, less, c.loop-term.invariant.high)))

pub loop-term-smaller-in-Some : goal.loop-term-smaller-in-Some
loop-term-smaller-in-Some c = ceiling_falls c.in-Some.term.id _ _ (λ among all. (c.in-Some.ensures.ids among all).0) c.in-Some.ensures.falls

pub loop-term-preserved-in-Some : goal.loop-term-preserved-in-Some
loop-term-preserved-in-Some c =
    let bound : ℕ = c.args.bound in
    let field_is : c.pop.new.self.field ≡ c.args.self.field = c.in-Some.ensures.field ∙ c.loop-term.invariant.field in
    record {
      field = field_is;
      low = c.add_scaled-in-Some-2.ensures.low ∙ c.loop-term.invariant.low;
      high = c.add_scaled-in-Some-2.ensures.high ∙ c.loop-term.invariant.high;
      below = below_by_test bound _ (c.in-Some.ensures.ids (λ k. ltb k bound) (tested_below bound _ c.loop-term.invariant.below)).1;
      whole = term_poured c.args.self.field _ _ _ _ _ _ _ _ _ _ c.loop-term.invariant.field field_is c.unit.ensures.value c.in-Some.ensures.sum c.add_scaled-in-Some-2.ensures.sum c.loop-term.invariant.whole;
    }

pub loop-term-smaller : goal.loop-term-smaller
loop-term-smaller c = ceiling_falls c.in-Some.term.id _ _ (λ among all. (c.in-Some.ensures.ids among all).0) c.in-Some.ensures.falls

pub loop-term-preserved : goal.loop-term-preserved
loop-term-preserved c =
    let bound : ℕ = c.args.bound in
    let field_is : c.pop.new.self.field ≡ c.args.self.field = c.in-Some.ensures.field ∙ c.loop-term.invariant.field in
    record {
      field = field_is;
      low = c.add_scaled-in-Some-2.ensures.low ∙ c.loop-term.invariant.low;
      high = c.add_scaled-in-Some-2.ensures.high ∙ c.loop-term.invariant.high;
      below = below_by_test bound _ (c.in-Some.ensures.ids (λ k. ltb k bound) (tested_below bound _ c.loop-term.invariant.below)).1;
      whole = term_poured c.args.self.field _ _ _ _ _ _ _ _ _ _ c.loop-term.invariant.field field_is c.unit.ensures.value c.in-Some.ensures.sum c.add_scaled-in-Some-2.ensures.sum c.loop-term.invariant.whole;
    }

pub returns-clause-sum : goal.returns-clause-sum
returns-clause-sum c = Alike_from_weights nat_eq (SameWeights-sym (rw (c.in_default.ensures.none, append-nil) at c.loop-term.invariant.whole))
