use Rattle.std.proofs.Common.{◌+◌, ◌-◌, ◌*◌}
use Rattle.ve_theory.specs.Presentations.{greatest_step, relator_bound, submodule_bound}
use Rattle.ve_main.proofs.Endings.{IsReached}
use Rattle.ve_main.proofs.enumeration.enumerate.Given as goal

abbrev pub invariant-levels : goal.invariant-levels
invariant-levels l = IsReached l.fn.presentation l.limit l.table

abbrev pub decreases-levels : goal.decreases-levels
decreases-levels l =
    let P = l.fn.presentation.presentation in
    (submodule_bound P + greatest_step P * l.limit + relator_bound P) - l.table.level
