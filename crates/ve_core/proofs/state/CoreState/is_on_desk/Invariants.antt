use Rattle.std.proofs.Common.{◌≡◌, ℕ, ◌<◌, get_or}
use Rattle.ve_machine.specs.Seats.{with_job}
use Rattle.ve_hand.specs.Jobs.{job_of}
use Rattle.ve_core.proofs.state.CoreState.is_on_desk.Given as goal

-- the desks so far have other things
abbrev pub invariant-loop-desk : goal.invariant-loop-desk
invariant-loop-desk l = (k : ℕ) → k < l.desk-index → get_or l.desk-items k (with_job (job_of l.job)) ≡ with_job (job_of l.job) → ⊥
