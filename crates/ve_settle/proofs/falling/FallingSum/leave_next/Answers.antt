use Rattle.std.proofs.Common.{◌≡◌, rules, arith, drop}
use Rattle.ve_vec.proofs.ReducedLists.{IsReduced-drop}
use Rattle.ve_settle.proofs.SortedTerms.{first_gone}
use Rattle.ve_settle.proofs.falling.FallingSum.leave_next.Goals as goal

pub invariant_of-self : goal.invariant_of-self
invariant_of-self c =
    let few : c.args.self.now.taken ≡ 0 = c.has_few.ensures (search rules) in
    let rest : c.take_leading.new.self ≡ drop 1 c.args.self.now.sorted =
    first_gone c.take_leading.result (λ t. (t.id, t.coef)) c.args.self.now.sorted c.take_leading.new.self c.take_leading.ensures.zero c.take_leading.ensures.first
    (omega (arith, c.requires.next, few)) in
    record { reduced = rw rest (IsReduced-drop _ 1 _ c.args.self.now.reduced); within = omega (arith, few); same = c.args.self.now.same }
