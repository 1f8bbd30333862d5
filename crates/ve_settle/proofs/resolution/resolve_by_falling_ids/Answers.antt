use Rattle.std.proofs.Common.{◌≡◌, ℕ, ◌<◌, ltb, Some, ◌∷◌, ◌++◌, nat_eq, length, IsTrue, ap, ap₂, sym, ◌∙◌, arith}
use Rattle.std.specs.Prelude.{slice_get}
use Rattle.std.proofs.lemmas.Bool.{ltb-true}
use Rattle.std.proofs.lemmas.List.Elements.{All-nil, All-append, All-weaker}
use Rattle.ve_theory.specs.Combinations.{unit, scaled, IsReducedOf}
use Rattle.ve_theory.proofs.Sums.{prime-large, SameWeights, SameWeights_of, weights_from_Alike, Decides-nat_eq}
use Rattle.ve_theory.proofs.Members.{All-scaled}
use Rattle.ve_theory.proofs.Remainders.{All-unit}
use Rattle.ve_table.specs.Tables.{presented, IsLive}
use Rattle.ve_settle.specs.Falling.{left_of}
use Rattle.ve_machine.proofs.ReducedSums.{reduced_keys, reduced_same}
use Rattle.ve_machine.proofs.Forwardings.{positive_prime, nothing_forwarded}
use Rattle.ve_settle.proofs.Clearing.{resolved_with}
use Rattle.ve_settle.proofs.Forwarding.{done_live, forward_pushed}
use Rattle.ve_settle.proofs.Resolving.{below_by_test, bound_kept, bounded, ceiling_falls, tested_below}
use Rattle.ve_settle.proofs.resolution.resolve_by_falling_ids.Goals as goal

pub new-left-requires : goal.new-left-requires
new-left-requires c =
    let same : c.field.result.now ≡ (presented c.args.table.now).prime = c.field.ensures.field ∙ ap (λ d. d.presentation.prime) c.presentation.ensures.value in
    rw same c.requires.0

pub loop-term-init : goal.loop-term-init
loop-term-init c =
    let same : c.field.result.now ≡ (presented c.args.table.now).prime = c.field.ensures.field ∙ ap (λ d. d.presentation.prime) c.presentation.ensures.value in
    let p : ℕ = (presented c.args.table.now).prime in
    record {
      field = c.new-left.ensures.field ∙ same;
      reduced = c.zero-resolved.ensures.fits p;
      live = rw c.zero-resolved.ensures.value (All-nil (λ (t : ℕ × ℕ). IsLive c.args.table.now t.0));
      forwarding = nothing_forwarded p c.args.table.now.forwards c.args.vector _ (positive_prime c.args.table.now c.presentation.ensures.sound)
          (SameWeights_of (sym (ap₂ (λ v w. v ++ w) c.zero-resolved.ensures.value c.new-left.ensures.whole)));
      ids = λ among kept all. (
        rw c.zero-resolved.ensures.value (All-nil (λ (t : ℕ × ℕ). IsTrue (among t.0))),
        rw c.new-left.ensures.whole all,
      );
    }

pub forward-requires : goal.forward-requires
forward-requires c =
    let n : ℕ = length c.args.table.now.words in
    let left = (c.loop-term.invariant.ids (λ k. ltb k n) (bound_kept c.args.table.now c.presentation.ensures.sound n) (tested_below n c.args.vector c.requires.1)).1 in
    ltb-true c.in-Some.term.id n (c.in-Some.ensures.ids (λ k. ltb k n) left).0

pub push_scaled-requires-clause-fits : goal.push_scaled-requires-clause-fits
push_scaled-requires-clause-fits c =
    let dead_is : slice_get c.args.table.now.forwards c.in-Some.term.id ≡ Some (Some c.in-Some-forward.forward.now) = c.in-Some-forward.ensures in
    rw (c.in-Some.ensures.field, c.loop-term.invariant.field) (c.presentation.ensures.sound.forwards _ _ dead_is).stands.row.0

pub add_term-requires-clause-large : goal.add_term-requires-clause-large
add_term-requires-clause-large c =
    let same : c.field.result.now ≡ (presented c.args.table.now).prime = c.field.ensures.field ∙ ap (λ d. d.presentation.prime) c.presentation.ensures.value in
    rw same (prime-large (presented c.args.table.now).prime c.presentation.ensures.sound.valid.presentation.field)

pub loop-term-smaller-in_default-forward : goal.loop-term-smaller-in_default-forward
loop-term-smaller-in_default-forward c = ceiling_falls c.in-Some.term.id _ _ (λ among all. (c.in-Some.ensures.ids among all).0) c.in-Some.ensures.falls

pub loop-term-preserved-in_default-forward : goal.loop-term-preserved-in_default-forward
loop-term-preserved-in_default-forward c =
    let same : c.field.result.now ≡ (presented c.args.table.now).prime = c.field.ensures.field ∙ ap (λ d. d.presentation.prime) c.presentation.ensures.value in
    let p : ℕ = (presented c.args.table.now).prime in
    let left_is : SameWeights p (left_of c.loop-term.left) ((c.in-Some.term.id, c.in-Some.term.coef) ∷ left_of c.pop.new.self) =
    weights_from_Alike nat_eq Decides-nat_eq p _ _ (rw c.loop-term.invariant.field at c.in-Some.ensures.sum) in
    let sum : IsReducedOf ◌<◌ nat_eq p c.add_term.new.sum (c.loop-term.resolved ++ scaled c.in-Some.term.coef (unit c.in-Some.term.id)) = rw same at c.in_ok-add_term.ensures in
    record {
      field = c.in-Some.ensures.field ∙ c.loop-term.invariant.field;
      reduced = sum.reduced;
      live = reduced_keys (IsLive c.args.table.now) p _ _ sum
          (All-append (λ (t : ℕ × ℕ). IsLive c.args.table.now t.0) c.loop-term.resolved _ c.loop-term.invariant.live
          (All-scaled (IsLive c.args.table.now) c.in-Some.term.coef (unit c.in-Some.term.id) (All-unit (IsLive c.args.table.now) c.in-Some.term.id c.in_default-forward.ensures)));
      forwarding = done_live p c.args.table.now.forwards c.args.vector c.loop-term.resolved _ _ _ c.in-Some.term.id c.in-Some.term.coef left_is (reduced_same p _ _ sum) c.loop-term.invariant.forwarding;
      ids = λ among kept all.
          let parts = c.loop-term.invariant.ids among kept all in
          let taken = c.in-Some.ensures.ids among parts.1 in (
            reduced_keys (λ k. IsTrue (among k)) p _ _ sum
                (All-append (λ (t : ℕ × ℕ). IsTrue (among t.0)) c.loop-term.resolved _ parts.0
                (All-scaled (λ k. IsTrue (among k)) c.in-Some.term.coef (unit c.in-Some.term.id) (All-unit (λ k. IsTrue (among k)) c.in-Some.term.id taken.0))),
            taken.1,
          );
    }

pub loop-term-smaller : goal.loop-term-smaller
loop-term-smaller c =
    let dead_is : slice_get c.args.table.now.forwards c.in-Some.term.id ≡ Some (Some c.in-Some-forward.forward.now) = c.in-Some-forward.ensures in
    let id : ℕ = c.in-Some.term.id in
    ceiling_falls id _ _ (λ among all. (c.in-Some.ensures.ids among all).0)
    (below_by_test id _ (c.in_ok-push_scaled.ensures.ids (λ k. ltb k id) (tested_below id _ c.in-Some.ensures.falls)
    (tested_below id _ (c.presentation.ensures.sound.forwards _ _ dead_is).below)))

pub loop-term-preserved : goal.loop-term-preserved
loop-term-preserved c =
    let p : ℕ = (presented c.args.table.now).prime in
    let dead_is : slice_get c.args.table.now.forwards c.in-Some.term.id ≡ Some (Some c.in-Some-forward.forward.now) = c.in-Some-forward.ensures in
    let field_is : c.pop.new.self.field ≡ p = c.in-Some.ensures.field ∙ c.loop-term.invariant.field in
    record {
      field = c.in_ok-push_scaled.ensures.field ∙ field_is;
      reduced = c.loop-term.invariant.reduced;
      live = c.loop-term.invariant.live;
      forwarding = forward_pushed p c.args.table.now.forwards _ _ c.args.vector c.loop-term.resolved _ _ _ c.in-Some-forward.forward.now c.in-Some.term.id c.in-Some.term.coef
          (positive_prime c.args.table.now c.presentation.ensures.sound) c.loop-term.invariant.field field_is dead_is c.in-Some.ensures.sum c.in_ok-push_scaled.ensures.sum c.loop-term.invariant.forwarding;
      ids = λ among kept all.
          let parts = c.loop-term.invariant.ids among kept all in
          let taken = c.in-Some.ensures.ids among parts.1 in
          (parts.0, c.in_ok-push_scaled.ensures.ids among taken.1 (kept c.in-Some.term.id c.in-Some-forward.forward.now dead_is taken.0));
    }

pub resolve_over_span-requires-clause-below : goal.resolve_over_span-requires-clause-below
resolve_over_span-requires-clause-below c =
    let dead_is : slice_get c.args.table.now.forwards c.in-Some.term.id ≡ Some (Some c.in-Some-forward.forward.now) = c.in-Some-forward.ensures in
    let id : ℕ = c.in-Some.term.id in
    below_by_test id _ (c.in_ok-push_scaled.ensures.ids (λ k. ltb k id) (tested_below id _ c.in-Some.ensures.falls)
    (tested_below id _ (c.presentation.ensures.sound.forwards _ _ dead_is).below))

pub resolve_over_span-requires-clause-ids : goal.resolve_over_span-requires-clause-ids
resolve_over_span-requires-clause-ids c =
    let n : ℕ = length c.args.table.now.words in
    let left = (c.loop-term.invariant.ids (λ k. ltb k n) (bound_kept c.args.table.now c.presentation.ensures.sound n) (tested_below n c.args.vector c.requires.1)).1 in
    let within : c.in-Some.term.id < n = ltb-true c.in-Some.term.id n (c.in-Some.ensures.ids (λ k. ltb k n) left).0 in
    omega (arith, within)

pub add_scaled-requires-clause-residue : goal.add_scaled-requires-clause-residue
add_scaled-requires-clause-residue c =
    let same : c.field.result.now ≡ (presented c.args.table.now).prime = c.field.ensures.field ∙ ap (λ d. d.presentation.prime) c.presentation.ensures.value in
    rw same (prime-large (presented c.args.table.now).prime c.presentation.ensures.sound.valid.presentation.field)

pub returns-then-pushed-term-clause-resolved : goal.returns-then-pushed-term-clause-resolved
returns-then-pushed-term-clause-resolved c =
    let same : c.field.result.now ≡ (presented c.args.table.now).prime = c.field.ensures.field ∙ ap (λ d. d.presentation.prime) c.presentation.ensures.value in
    let p : ℕ = (presented c.args.table.now).prime in
    let dead_is : slice_get c.args.table.now.forwards c.in-Some.term.id ≡ Some (Some c.in-Some-forward.forward.now) = c.in-Some-forward.ensures in
    resolved_with c.args.table.now c.presentation.ensures.sound c.args.vector c.loop-term.resolved (left_of c.push_scaled.new.self) c.in_ok-rest.rest c.add_scaled.new.self c.loop-term.invariant.live
    (forward_pushed p c.args.table.now.forwards _ _ c.args.vector c.loop-term.resolved _ _ _ c.in-Some-forward.forward.now c.in-Some.term.id c.in-Some.term.coef
    (positive_prime c.args.table.now c.presentation.ensures.sound) c.loop-term.invariant.field (c.in-Some.ensures.field ∙ c.loop-term.invariant.field) dead_is c.in-Some.ensures.sum
    c.in_ok-push_scaled.ensures.sum c.loop-term.invariant.forwarding)
    c.in_ok-rest.ensures.resolved (rw same at c.in_ok-add_scaled.ensures.ok)

pub returns-then-pushed-term-clause-ids : goal.returns-then-pushed-term-clause-ids
returns-then-pushed-term-clause-ids c =
    bounded c.args.table.now c.presentation.ensures.sound c.args.vector c.add_scaled.new.self
    (λ n kept all.
    let parts = c.loop-term.invariant.ids (λ k. ltb k n) kept all in
    let within : c.in-Some.term.id < n = ltb-true c.in-Some.term.id n (c.in-Some.ensures.ids (λ k. ltb k n) parts.1).0 in
    c.in_ok-add_scaled.ensures.ids (λ k. ltb k n) parts.0
    (tested_below n c.in_ok-rest.rest
    (All-weaker (λ (t : ℕ × ℕ). t.0 < c.in-Some.term.id) (λ (t : ℕ × ℕ). t.0 < n) (λ t less. omega (arith, less, within)) c.in_ok-rest.rest c.in_ok-rest.ensures.below)))

pub returns-clause-ids : goal.returns-clause-ids
returns-clause-ids c = bounded c.args.table.now c.presentation.ensures.sound c.args.vector c.loop-term.resolved (λ n kept all. (c.loop-term.invariant.ids (λ k. ltb k n) kept all).0)
