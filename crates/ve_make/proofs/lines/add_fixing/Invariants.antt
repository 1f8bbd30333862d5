use Rattle.std.proofs.Common.{◌≡◌, ◌+◌, ◌*◌}
use Rattle.ve_make.specs.Symmetric.{fixing_relations}
use Rattle.ve_make.specs.Parts.{HasRoom, swaps_draft}
use Rattle.ve_make.proofs.lines.add_fixing.Given as goal

abbrev pub invariant-loop-swap : goal.invariant-loop-swap
invariant-loop-swap l = record {
  stands : l.presentation ≡ swaps_draft l.field l.swaps l.initial.presentation.presentation.relations (fixing_relations l.field l.node l.swap);
  room : HasRoom (24 * l.swaps + l.swap) l.presentation;
}
