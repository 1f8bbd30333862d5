-- The sizes of the first levels of a presentation.
use Rattle.std.specs.Prelude.{ℕ, ◌<◌, List, length, slice_index_or}
use Rattle.ve_theory.specs.Presentations.{Presentation}
use Rattle.ve_theory.specs.Levels.{HasSize}

-- levels 0, 1, 2, .. have the sizes of the list, in this order
unfoldable pub HaveSizes : Presentation → List ℕ → Type 0
HaveSizes P sizes = (k : ℕ) → k < length sizes → HasSize P k (slice_index_or sizes k 0)
