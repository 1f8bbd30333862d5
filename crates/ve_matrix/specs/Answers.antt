-- What contracts see of answers.
use Rattle.std.specs.Prelude.{◌≡◌, ℕ, ◌<◌, ◌^◌, Some, List, length, slice_get}
use Rattle.ve_theory.specs.Residues.{IsFieldPrime}
use Rattle.ve_theory.specs.Presentations.{Presentation}
use Rattle.ve_theory.specs.Validity.{IsValid}
use Rattle.ve_theory.specs.Answers.{Answer as ModuleAnswer, HasShape, IsWellFormed}
use Rattle.ve_table.specs.declared.origin.Origin.{Origin}
use Rattle.ve_table.specs.Books.{words_of}
use Rattle.ve_table.specs.Numbers.{HasParentBelow}
use Rattle.ve_matrix.specs.declared.answer.Answer.{Answer}

-- the answer, with the words that its origins spell
abbrev pub answer_of : Answer → ModuleAnswer
answer_of A = record {
  prime = A.field;
  names = A.names;
  generators = A.roots;
  closed = A.closed;
  action = record { basis = words_of A.basis.items; images = A.images.items; matrices = A.matrices.items };
}

-- each origin that isn't a generator names an earlier place
abbrev pub NameEarlierPlaces : List Origin → Type 0
NameEarlierPlaces origins = (b : ℕ) (o : Origin) → slice_get origins b ≡ Some o → HasParentBelow b o

-- The prime is in the table, the answer is well formed, its basis has fewer than 2^32 words, and each of them comes from an
-- earlier one.
pub record IsAnswerValue (A : Answer) : Type 0 where
  pub prime : IsFieldPrime A.field
  pub form : IsWellFormed (answer_of A)
  pub dimension : length A.basis.items < 2 ^ 32
  pub origins : NameEarlierPlaces A.basis.items

-- the answer has the shape of a valid presentation, so that relations can be traced along its rows, and its words compared
pub record AnswerFits (P : Presentation) (A : Answer) : Type 0 where
  pub valid : IsValid P
  pub answer : IsAnswerValue A
  pub shape : HasShape P (answer_of A)
