use Rattle.std.proofs.Common.{Contains, below_more, refl, sym, subst, true≢false}
use Rattle.ve_machine.specs.Seats.{with_job}
use Rattle.ve_machine.specs.Machines.{Machine}
use Rattle.ve_hand.specs.Jobs.{job_of}
use Rattle.ve_core.proofs.Waiting.{found_at, none_there, not_at}
use Rattle.ve_core.proofs.state.CoreState.is_on_desk.Goals as goal

pub loop-desk-preserved : goal.loop-desk-preserved
loop-desk-preserved c =
    below_more _ _ c.loop-desk.invariant
    (not_at c.deref-desk-items.result.now c.loop-desk.desk-index c.desk-item.result (with_job (job_of c.args.job)) c.loop-desk-test.true c.desk-item.is (λ same. true≢false (sym (c.if-has_job.ensures.1 same))))

pub returns-then-has_job : goal.returns-then-has_job
returns-then-has_job c = (
  λ _.
      subst (λ (M : Machine). Contains M.shared.desks (with_job (job_of c.args.job))) c.self.view_is
      (subst (λ desks. Contains desks (with_job (job_of c.args.job))) c.deref-desk-items.ensures.value
      (found_at c.deref-desk-items.result.now c.loop-desk.desk-index c.desk-item.result (with_job (job_of c.args.job)) c.loop-desk-test.true c.desk-item.is (c.if-has_job.ensures.0 refl))),
  λ _. refl,
)

pub returns : goal.returns
returns c = (
  λ yes. absurd (true≢false (sym yes)),
  λ found.
      absurd
      (none_there c.deref-desk-items.result.now c.loop-desk.desk-index (with_job (job_of c.args.job)) c.loop-desk-test.false c.loop-desk.invariant
      (subst (λ desks. Contains desks (with_job (job_of c.args.job))) (sym c.deref-desk-items.ensures.value)
      (subst (λ (M : Machine). Contains M.shared.desks (with_job (job_of c.args.job))) (sym c.self.view_is) found))),
)
