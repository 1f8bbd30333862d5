use Rattle.std.proofs.Common.{◌≡◌, ◌+◌, ◌-◌, ◌*◌, [], ◌++◌}
use Rattle.ve_make.specs.Parts.{HasRoom, swaps_draft}
use Rattle.ve_make.proofs.Building.{orders_before}
use Rattle.ve_make.proofs.lines.add_orders_with.Given as goal

abbrev pub invariant-loop-second : goal.invariant-loop-second
invariant-loop-second l = record {
  stands : l.presentation ≡ swaps_draft l.field l.swaps (l.initial.presentation.presentation.relations ++ orders_before l.field l.first l.second) [];
  room : HasRoom (24 * l.first + (l.second - (l.first + 1))) l.presentation;
}
