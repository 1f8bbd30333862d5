-- The rows of basis words by their origins.
use Rattle.std.specs.Prelude.{◌<◌, length}
use Rattle.ve_theory.specs.Answers.{Action, Row, image_row, matrix_row}
use Rattle.ve_table.specs.declared.origin.Origin.{Origin}
use Rattle.ve_table.specs.declared.origin.Origin.TheVariants.{Root, Child}
use Rattle.ve_matrix.specs.declared.answer.Answer.{Answer}

-- the row of the generator, or of the parent's basis vector times the letter
abbrev pub row_by_origin : Action → Origin → Row
row_by_origin A (Root i) = image_row A i
row_by_origin A (Child parent letter) = matrix_row A letter parent

-- the generator, or the parent and the letter, are the answer's
abbrev pub HasRow : Answer → Origin → Type 0
HasRow A (Root i) = i < A.roots
HasRow A (Child parent letter) = (parent < length A.basis.items) × (letter < length A.names)
