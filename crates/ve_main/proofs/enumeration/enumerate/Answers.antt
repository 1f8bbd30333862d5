use Rattle.std.proofs.Common.{◌≡◌, ◌+◌, arith, sym, subst, ◌∙◌}
use Rattle.ve_theory.specs.Levels.{FitsLimit}
use Rattle.ve_main.proofs.Endings.{first_level, next_level, closed_level, over_level, outgrown_start, reached_level}
use Rattle.ve_main.proofs.enumeration.enumerate.Goals as goal

pub returns-in-Over : goal.returns-in-Over
returns-in-Over c = outgrown_start c.args.presentation c.args.limit c.in-Over.size c.in-Over.ensures.0 c.in-Over.ensures.1

pub levels-init : goal.levels-init
levels-init c = first_level c.args.presentation c.args.limit c.in-Open.table c.in-Open.ensures.0 c.in-Open.ensures.1

pub advance-requires-clause-fits : goal.advance-requires-clause-fits
advance-requires-clause-fits c =
    subst (λ k. FitsLimit c.in-Ok.finished.draft.presentation c.args.limit k) (sym c.in-Ok.ensures.finished.level)
    (subst (λ d. FitsLimit d.presentation c.args.limit c.levels.table.level) (sym (c.in-Ok.ensures.finished.draft ∙ c.levels.invariant.same))
    (c.levels.invariant.fits c.levels.table.level (omega arith)))

pub returns-in-Closed : goal.returns-in-Closed
returns-in-Closed c =
    let closed = closed_level c.args.presentation c.args.limit c.levels.table c.in-Ok.finished c.in-Closed.last c.levels.invariant c.in-Ok.ensures.finished.draft c.in-Ok.ensures.finished.level
    c.in-Closed.ensures in
    (closed.0, closed.1, c.in-Closed.ensures.packed)

pub returns-in-Over-advance : goal.returns-in-Over-advance
returns-in-Over-advance c =
    over_level c.args.presentation c.args.limit c.levels.table c.in-Ok.finished _ c.in-Over-advance.level c.in-Over-advance.size c.levels.invariant c.in-Ok.ensures.finished.draft
    c.in-Ok.ensures.finished.level c.in-Over-advance.ensures

pub levels-smaller : goal.levels-smaller
levels-smaller c =
    let P = c.args.presentation.presentation in
    let reached = reached_level P c.is_valid.ensures.valid.presentation (c.reaches_are_bounded.ensures P c.is_valid.ensures.valid.presentation) c.args.limit c.levels.table.level
    (c.levels.invariant.fits c.levels.table.level (omega arith)) c.levels.invariant.open_before in
    let above : c.in-Next.next.level ≡ c.in-Ok.finished.level + 1 = c.in-Next.ensures.level in
    let same : c.in-Ok.finished.level ≡ c.levels.table.level = c.in-Ok.ensures.finished.level in
    omega arith

pub levels-preserved : goal.levels-preserved
levels-preserved c =
    next_level c.args.presentation c.args.limit c.levels.table c.in-Ok.finished c.in-Next.next c.levels.invariant c.in-Ok.ensures.finished.draft c.in-Ok.ensures.finished.level c.in-Next.ensures
