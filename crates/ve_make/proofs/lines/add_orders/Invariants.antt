use Rattle.std.proofs.Common.{◌≡◌, ◌*◌, []}
use Rattle.std.specs.List.{flat_map}
use Rattle.ve_formats.specs.Lines.{numbers_below}
use Rattle.ve_make.specs.Symmetric.{relations_of_swap}
use Rattle.ve_make.specs.Parts.{HasRoom, swaps_draft}
use Rattle.ve_make.proofs.lines.add_orders.Given as goal

abbrev pub invariant-loop-first : goal.invariant-loop-first
invariant-loop-first l = record {
  stands : l.presentation ≡ swaps_draft l.field l.swaps (flat_map (relations_of_swap l.field l.swaps) (numbers_below l.first)) [];
  room : HasRoom (24 * l.first) l.presentation;
}
