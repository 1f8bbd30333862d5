use Rattle.std.proofs.Common.{◌≡◌, rules, ℕ, IsTrue, nat_eq}
use Rattle.std.proofs.lemmas.List.Elements.{All-append}
use Rattle.ve_theory.proofs.Sums.{Alike_from_weights, weights_from_Alike, Decides-nat_eq}
use Rattle.ve_machine.proofs.ReducedSums.{reduced_same}
use Rattle.ve_settle.proofs.SortedTerms.{parts_all, pushed_before, pushed_behind}
use Rattle.ve_settle.proofs.falling.FallingSum.push_scaled.Goals as goal

pub returns-then-len-le-SHORT-clause-sum : goal.returns-then-len-le-SHORT-clause-sum
returns-then-len-le-SHORT-clause-sum c =
    let start : c.args.self.now.taken ≡ 0 = c.has_few.ensures (search rules) in
    Alike_from_weights nat_eq (rw start (pushed_before _ _ _ _ _ (reduced_same _ _ _ c.in_ok-add_scaled.ensures.ok)))

pub returns-then-len-le-SHORT-clause-ids : goal.returns-then-len-le-SHORT-clause-ids
returns-then-len-le-SHORT-clause-ids c =
    let start : c.args.self.now.taken ≡ 0 = c.has_few.ensures (search rules) in
    rw start (λ among all of_vector.
    let parts = parts_all (λ t. IsTrue (among t.0)) _ _ all in
    All-append (λ (t : ℕ × ℕ). IsTrue (among t.0)) _ _ (c.in_ok-add_scaled.ensures.ids among parts.0 of_vector) parts.1)

pub returns-then-len-le-SHORT-2-clause-sum : goal.returns-then-len-le-SHORT-2-clause-sum
returns-then-len-le-SHORT-2-clause-sum c =
    Alike_from_weights nat_eq
    (pushed_behind _ _ _ _ _ (weights_from_Alike nat_eq Decides-nat_eq _ _ _ (rw c.args.self.now.same at c.in_ok-push_scaled.ensures.sum)))

pub returns-then-len-le-SHORT-2-clause-ids : goal.returns-then-len-le-SHORT-2-clause-ids
returns-then-len-le-SHORT-2-clause-ids c =
    λ among all of_vector.
    let parts = parts_all (λ t. IsTrue (among t.0)) _ _ all in
    All-append (λ (t : ℕ × ℕ). IsTrue (among t.0)) _ _ parts.0 (c.in_ok-push_scaled.ensures.ids among parts.1 of_vector)

pub add_scaled-requires-2-clause-fits : goal.add_scaled-requires-2-clause-fits
add_scaled-requires-2-clause-fits c = c.in_ok-sorted.ensures.fits _ c.args.self.now.reduced

pub returns-clause-sum : goal.returns-clause-sum
returns-clause-sum c =
    Alike_from_weights nat_eq (pushed_before _ _ _ _ _ (reduced_same _ _ _ (rw c.in_ok-sorted.ensures.rest at c.in_ok-add_scaled-2.ensures.ok)))

pub returns-clause-ids : goal.returns-clause-ids
returns-clause-ids c =
    λ among all of_vector.
    let parts = parts_all (λ t. IsTrue (among t.0)) _ _ all in
    All-append (λ (t : ℕ × ℕ). IsTrue (among t.0)) _ _ (c.in_ok-add_scaled-2.ensures.ids among (rw c.in_ok-sorted.ensures.rest parts.0) of_vector) parts.1
