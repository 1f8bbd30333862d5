-- What is known where the relations of a presentation are traced along the rows of an answer.
use Rattle.std.proofs.Common.{ℕ, ◌<◌, [], length, All, sym, ap, subst, arith}
use Rattle.std.proofs.lemmas.List.Elements.{All-weaker}
use Rattle.ve_theory.specs.Combinations.{unit}
use Rattle.ve_theory.specs.Words.{start, letters}
use Rattle.ve_theory.specs.Presentations.{Presentation, HasLetters, IsWord, relator, relators, submodule_relation}
use Rattle.ve_theory.specs.Answers.{Answer as ModuleAnswer, HasPlacedRows, HasShape, IsWellFormed, dimension}
use Rattle.ve_theory.proofs.Remainders.{All-unit}
use Rattle.ve_vec.specs.Tracing.{CanTrace, CanTraceElement}
use Rattle.ve_trace.specs.Found.{HasOwnRelations}
use Rattle.ve_matrix.specs.declared.answer.Answer.{Answer}
use Rattle.ve_matrix.specs.Answers.{AnswerFits, answer_of}
use Rattle.ve_matrix.specs.Evaluating.{IsAnswerWord, IsTraced, answer_table}

-- the rows of a well formed answer name basis words alone
pub rows_placed : (P : Presentation) (A : ModuleAnswer) → HasShape P A → IsWellFormed A → HasPlacedRows P A.action
rows_placed P A shape form = record {
  images = λ i below. (form.images i [] (omega (arith, below, shape.generators, form.one_image_each))).1;
  matrices = λ x j letter within.
      let there : x < length A.action.matrices = omega (arith, letter, ap length shape.names, form.one_matrix_each) in
      (form.matrices x [] there j [] (omega (arith, within, form.square x [] there))).1;
}

module _ (P : Presentation) (A : Answer) (check : AnswerFits P A) (own : HasOwnRelations P) where
  pub relator_residues : (number : ℕ) → number < length (relators P) → All (λ t. t.1 < A.field) (relator P number)
  relator_residues number within = subst (λ p. All (λ t. t.1 < p) (relator P number)) (sym check.shape.prime) (own.residues number within)

  pub relator_found : (number row : ℕ) → IsTraced A (answer_of A).action → number < length (relators P) → row < dimension (answer_of A).action
      → CanTraceElement A.field (answer_table A) (unit row) (relator P number)
  relator_found number row traced within placed =
      All-weaker (λ t. HasLetters P t.0) (λ t. CanTrace A.field (answer_table A) (unit row) t.0)
      (λ t has. traced.found (unit row) t.0 (All-unit (λ j. j < dimension (answer_of A).action) row placed) (subst (λ names. All (λ x. x < length names) t.0) (sym check.shape.names) has))
      (relator P number) (own.letters number within)

  pub submodule_residues : (number : ℕ) → number < length P.submodule → All (λ t. t.1 < A.field) (submodule_relation P number)
  submodule_residues number within = subst (λ p. All (λ t. t.1 < p) (submodule_relation P number)) (sym check.shape.prime) (own.submodule_residues number within)

  pub submodule_words : (number : ℕ) → number < length P.submodule → All (λ t. IsAnswerWord A t.0) (submodule_relation P number)
  submodule_words number within =
      All-weaker (λ t. IsWord P t.0) (λ t. IsAnswerWord A t.0)
      (λ t is. (subst (λ n. start t.0 < n) (sym check.shape.generators) is.0, subst (λ names. All (λ x. x < length names) (letters t.0)) (sym check.shape.names) is.1))
      (submodule_relation P number) (own.submodule_words number within)
