use Rattle.std.proofs.Common.{refl, sym, subst}
use Rattle.ve_main.specs.Commands.{HasLimit}
use Rattle.ve_main.proofs.Runs.{stopped_shared}
use Rattle.ve_main.proofs.run.perform.Goals as goal

pub answer_presentation-requires : goal.answer_presentation-requires
answer_presentation-requires g c = c.requires.limits c.in-Alone.limit (subst (λ k. HasLimit k c.in-Alone.limit) (sym c.in-Alone.is) refl)

pub answer_presentation-requires-in-Shared : goal.answer_presentation-requires-in-Shared
answer_presentation-requires-in-Shared g c = c.requires.limits c.in-Shared.limit (subst (λ k. HasLimit k c.in-Shared.limit) (sym c.in-Shared.is) refl)

pub returns-in-Shared-clause-stopped : goal.returns-in-Shared-clause-stopped
returns-in-Shared-clause-stopped g c =
    rw c.in-Shared.is (stopped_shared c.in-Shared.workers c.in-Shared.limit c.in-Shared.summary _ _ _ c.answer_presentation-in-Shared.ensures.stopped)
