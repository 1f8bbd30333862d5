use Rattle.std.proofs.Common.{◌≡◌, ℕ, ◌-◌, ◌<◌, ◌≤◌, ◌∷◌, ◌++◌, [], Some, nat_eq, refl, ap, ◌∙◌, arith}
use Rattle.std.specs.Prelude.{slice_get}
use Rattle.std.proofs.lemmas.List.Elements.{All-weaker}
use Rattle.ve_theory.specs.Combinations.{scaled, Alike}
use Rattle.ve_theory.proofs.Sums.{SameWeights-sym, weights_from_Alike, Decides-nat_eq}
use Rattle.ve_table.specs.Tables.{presented}
use Rattle.ve_machine.proofs.Forwardings.{nothing_forwarded, positive_prime}
use Rattle.ve_settle.specs.Falling.{left_of}
use Rattle.ve_settle.proofs.Clearing.{below_left, dead_replaced, nothing_past, span_resolved}
use Rattle.ve_settle.proofs.Forwarding.{forward_pushed}
use Rattle.ve_settle.proofs.span.resolve_over_span.Goals as goal

pub loop-id-init : goal.loop-id-init
loop-id-init c =
    let p : ℕ = (presented c.args.table.now).prime in
    let alike : Alike nat_eq p c.in_ok-sum.sum.total (left_of c.args.left) = rw c.requires.field at c.in_ok-sum.ensures.sum in
    record {
      low = c.in_ok-sum.ensures.low;
      high = c.in_ok-sum.ensures.high;
      cleared = nothing_past p c.args.table.now.forwards c.args.bound c.in_ok-sum.sum.total (left_of c.args.left) alike c.requires.below;
      forwarding = nothing_forwarded p c.args.table.now.forwards (left_of c.args.left) c.in_ok-sum.sum.total (positive_prime c.args.table.now c.is_sound.ensures)
          (SameWeights-sym (weights_from_Alike nat_eq Decides-nat_eq p _ _ alike));
    }

pub add_scaled-requires : goal.add_scaled-requires
add_scaled-requires c =
    let at : ℕ = c.loop-id.id - 1 in
    let dead_is : slice_get c.args.table.now.forwards at ≡ Some (Some c.in-Some.forward.now) = c.in-Some.ensures in
    let low : c.take-coef.new.self.low ≡ 0 = c.take-coef.ensures.low ∙ c.loop-id.invariant.low in
    let high : c.take-coef.new.self.high ≡ c.args.bound = c.take-coef.ensures.high ∙ c.loop-id.invariant.high in
    All-weaker (λ (t : ℕ × ℕ). t.0 < at) (λ (t : ℕ × ℕ). (c.take-coef.new.self.low ≤ t.0) × (t.0 ≤ c.take-coef.new.self.high))
    (λ t less. (omega (arith, low), omega (arith, less, high, c.loop-id.auto.id, c.loop-id-test.true)))
    c.in-Some.forward.now (c.is_sound.ensures.forwards _ _ dead_is).below

pub loop-id-preserved-in-Some : goal.loop-id-preserved-in-Some
loop-id-preserved-in-Some c =
    let p : ℕ = (presented c.args.table.now).prime in
    let at : ℕ = c.loop-id.id - 1 in
    let same : c.field.result.now ≡ p = c.field.ensures.field ∙ ap (λ d. d.presentation.prime) c.presentation.ensures.value in
    let dead_is : slice_get c.args.table.now.forwards at ≡ Some (Some c.in-Some.forward.now) = c.in-Some.ensures in
    let total_is : Alike nat_eq p c.loop-id.sum.total ((at, c.take-coef.result) ∷ c.take-coef.new.self.total) = rw same at c.take-coef.ensures.sum in
    let new_is : Alike nat_eq p c.add_scaled.new.self.total (c.take-coef.new.self.total ++ scaled c.take-coef.result c.in-Some.forward.now) = rw same at c.add_scaled.ensures.sum in
    record {
      low = c.add_scaled.ensures.low ∙ c.take-coef.ensures.low ∙ c.loop-id.invariant.low;
      high = c.add_scaled.ensures.high ∙ c.take-coef.ensures.high ∙ c.loop-id.invariant.high;
      cleared = dead_replaced p c.args.table.now.forwards c.args.bound at c.loop-id.id c.loop-id.sum.total c.take-coef.new.self.total _ c.in-Some.forward.now c.take-coef.result
          (omega (arith, c.loop-id-test.true)) (omega (arith, c.loop-id-test.true, c.loop-id.auto.id)) c.loop-id.invariant.cleared total_is c.take-coef.ensures.gone new_is
          (c.is_sound.ensures.forwards _ _ dead_is).below;
      forwarding = forward_pushed p c.args.table.now.forwards p p (left_of c.args.left) [] c.loop-id.sum.total c.take-coef.new.self.total _ c.in-Some.forward.now at c.take-coef.result
          (positive_prime c.args.table.now c.is_sound.ensures) refl refl dead_is total_is new_is c.loop-id.invariant.forwarding;
    }

pub returns-clause-resolved : goal.returns-clause-resolved
returns-clause-resolved c =
    let same : c.field.result.now ≡ (presented c.args.table.now).prime = c.field.ensures.field ∙ ap (λ d. d.presentation.prime) c.presentation.ensures.value in
    let none_left : c.loop-id.id ≡ 0 = omega (arith, c.loop-id-test.false) in
    span_resolved c.args.table.now c.is_sound.ensures c.args.bound (left_of c.args.left) c.in_ok-resolved.resolved c.loop-id.sum.total c.requires.ids
    (rw none_left at c.loop-id.invariant.cleared) c.loop-id.invariant.forwarding (rw same at c.in_ok-resolved.ensures)

pub returns-clause-below : goal.returns-clause-below
returns-clause-below c =
    let same : c.field.result.now ≡ (presented c.args.table.now).prime = c.field.ensures.field ∙ ap (λ d. d.presentation.prime) c.presentation.ensures.value in
    let none_left : c.loop-id.id ≡ 0 = omega (arith, c.loop-id-test.false) in
    below_left (presented c.args.table.now).prime c.args.table.now.forwards c.args.bound c.in_ok-resolved.resolved c.loop-id.sum.total
    (rw none_left at c.loop-id.invariant.cleared) (rw same at c.in_ok-resolved.ensures)
