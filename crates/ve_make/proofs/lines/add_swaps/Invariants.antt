use Rattle.std.proofs.Common.{◌≡◌, []}
use Rattle.ve_make.specs.Parts.{swaps_draft}
use Rattle.ve_make.proofs.lines.add_swaps.Given as goal

abbrev pub invariant-loop-swap : goal.invariant-loop-swap
invariant-loop-swap l = l.presentation ≡ swaps_draft l.initial.presentation.presentation.prime l.swap [] []
