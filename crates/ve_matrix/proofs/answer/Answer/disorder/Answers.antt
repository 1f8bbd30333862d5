use Rattle.std.proofs.Common.{arith}
use Rattle.std.proofs.lemmas.Option.{MatchOption-at_none, MatchOption-at_some}
use Rattle.ve_matrix.specs.Answers.{answer_of}
use Rattle.ve_matrix.specs.Disorders.{FallsFirst, IsFirstRowAbove}
use Rattle.ve_matrix.proofs.BasisWords.{length-words_of}
use Rattle.ve_matrix.proofs.Naming.{fall_named, image_named, row_named}
use Rattle.ve_matrix.proofs.answer.Answer.disorder.Goals as goal

pub overflow_add-result : goal.overflow_add-result
overflow_add-result c =
    let first : FallsFirst c.args.presentation.now.presentation (answer_of c.args.self.now).action c.in-Some.place = MatchOption-at_some _ _ c.in-Some.place c.in-Some.is c.in_ok-place.ensures in
    omega (arith, first.exists, length-words_of c.args.self.now.basis.items, c.requires.answer.dimension)

pub returns-in-Some-clause-first : goal.returns-in-Some-clause-first
returns-in-Some-clause-first c =
    fall_named c.args.presentation.now.presentation (answer_of c.args.self.now).action c.in-Some.place (MatchOption-at_some _ _ c.in-Some.place c.in-Some.is c.in_ok-place.ensures)

pub returns-in-Some-2-clause-first : goal.returns-in-Some-2-clause-first
returns-in-Some-2-clause-first c =
    image_named c.args.presentation.now.presentation (answer_of c.args.self.now).action c.in-Some-2.root c.from-row.result c.from-row.ensures
    (MatchOption-at_some _ _ c.in-Some-2.root c.in-Some-2.is c.in_ok-root.ensures)

pub overflow_add-result-in-Some-3 : goal.overflow_add-result-in-Some-3
overflow_add-result-in-Some-3 c =
    let first : IsFirstRowAbove c.args.presentation.now.presentation (answer_of c.args.self.now).action c.in-Some-3.letter c.in-Some-3.place =
    MatchOption-at_some _ _ (c.in-Some-3.letter, c.in-Some-3.place) c.in-Some-3.is c.in_ok-letter.ensures in
    omega (arith, first.row.exists, length-words_of c.args.self.now.basis.items, c.requires.answer.dimension)

pub returns-in-Some-3-clause-first : goal.returns-in-Some-3-clause-first
returns-in-Some-3-clause-first c =
    row_named c.args.presentation.now.presentation (answer_of c.args.self.now).action c.in-Some-3.letter c.from-letter.result c.in-Some-3.place c.from-letter.ensures
    (MatchOption-at_none _ _ c.in_default.is c.in_ok-place.ensures) (MatchOption-at_none _ _ c.in_default-2.is c.in_ok-root.ensures)
    (MatchOption-at_some _ _ (c.in-Some-3.letter, c.in-Some-3.place) c.in-Some-3.is c.in_ok-letter.ensures)
