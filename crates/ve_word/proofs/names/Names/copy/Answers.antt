use Rattle.std.proofs.Common.{string_bytes, ◌∙◌}
use Rattle.ve_word.proofs.Places.{map-clones}
use Rattle.ve_word.proofs.names.Names.copy.Goals as goal

pub invariant_of-result : goal.invariant_of-result
invariant_of-result c = rw (map-clones string_bytes _ _ c.in_ok-clone.ensures.cases) c.self.invariant

pub returns : goal.returns
returns c = map-clones string_bytes _ _ c.in_ok-clone.ensures.cases ∙ c.self.view_is
