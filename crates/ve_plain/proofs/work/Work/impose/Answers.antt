use Rattle.std.proofs.Common.{subst, refl}
use Rattle.ve_plain.specs.Working.{Vanishes}
use Rattle.ve_plain.proofs.Going.{Continues-trans, dead_there}
use Rattle.ve_plain.proofs.Working.{imposes_death, imposes_nothing}
use Rattle.ve_plain.proofs.work.Work.impose.Goals as goal

pub rewrite_parent-requires : goal.rewrite_parent-requires
rewrite_parent-requires c =
    dead_there c.args.self.now.table c.delete_resolved.new.table c.args.vector c.in-Some.id
    (subst (λ died. Vanishes c.args.self.now.table c.args.vector died c.delete_resolved.new.table) c.in-Some.is c.in_ok-id.ensures.ok)

pub returns-in_err-rewrite_parent-clause-continues : goal.returns-in_err-rewrite_parent-clause-continues
returns-in_err-rewrite_parent-clause-continues c = Continues-trans _ _ _ c.in_ok-id.ensures.ok.continues c.rewrite_parent.ensures.continues

pub returns-in_ok-rewrite_parent-clause-continues : goal.returns-in_ok-rewrite_parent-clause-continues
returns-in_ok-rewrite_parent-clause-continues c = Continues-trans _ _ _ c.in_ok-id.ensures.ok.continues c.rewrite_parent.ensures.continues

pub returns-in_ok-rewrite_parent-clause-ok : goal.returns-in_ok-rewrite_parent-clause-ok
returns-in_ok-rewrite_parent-clause-ok c =
    imposes_death c.args.self.now _ c.args.vector c.delete_resolved.new.table c.in-Some.id
    (subst (λ died. Vanishes c.args.self.now.table c.args.vector died c.delete_resolved.new.table) c.in-Some.is c.in_ok-id.ensures.ok)
    c.rewrite_parent.ensures.continues c.rewrite_parent.ensures.forwards c.in_ok-push.ensures.items

pub returns-in_default-clause-ok : goal.returns-in_default-clause-ok
returns-in_default-clause-ok c =
    imposes_nothing c.args.self.now _ c.args.vector
    (subst (λ died. Vanishes c.args.self.now.table c.args.vector died c.delete_resolved.new.table) c.in_default.is c.in_ok-id.ensures.ok) refl
