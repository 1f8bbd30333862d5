use Rattle.std.proofs.Common.{◌≡◌, map, take}
use Rattle.ve_hand.specs.Parts.{part_of, parts_at_id}
use Rattle.ve_hand.proofs.part.parts_from_id.Given as goal

abbrev pub invariant-loop-at : goal.invariant-loop-at
invariant-loop-at l = map part_of l.parts.items ≡ parts_at_id l.id (take l.at l.relator)
