use Rattle.std.proofs.Common.{◌≡◌, Some, length, slice_get, refl, sym, ◌∙◌, arith, below_more}
use Rattle.std.proofs.lemmas.Bool.{true≢false}
use Rattle.std.proofs.lemmas.Option.{slice_get_read}
use Rattle.ve_theory.specs.Answers.{HasOwnRow}
use Rattle.ve_matrix.specs.Answers.{answer_of}
use Rattle.ve_matrix.proofs.BasisWords.{length-words_of}
use Rattle.ve_check.proofs.OwnRows.{origin_has_row, own_row_told}
use Rattle.ve_check.proofs.words.failing_word.Goals as goal

pub row_of-row-requires-clause-origin : goal.row_of-row-requires-clause-origin
row_of-row-requires-clause-origin c =
    let A = c.args.answer.now in
    let found : slice_get A.basis.items c.loop-place.place ≡ Some c.index.result.now =
    slice_get_read A.basis.items (length A.basis.items) c.loop-place.place c.index.result.now refl (omega (arith, A.basis.ok.0)) c.index.ensures in
    origin_has_row A c.loop-place.place c.index.result.now c.requires.check.answer found

pub returns-then-not-is_unit : goal.returns-then-not-is_unit
returns-then-not-is_unit c =
    let P = c.args.presentation.now.presentation in
    let A = c.args.answer.now in
    let found : slice_get A.basis.items c.loop-place.place ≡ Some c.index.result.now =
    slice_get_read A.basis.items (length A.basis.items) c.loop-place.place c.index.result.now refl (omega (arith, A.basis.ok.0)) c.index.ensures in
    let told =
    own_row_told P A c.loop-place.place c.index.result.now c.row_of-row.result.now c.is_unit.result c.sums_extend.ensures c.reduced_lists_are_unique.ensures c.requires.check
    (omega (arith, c.has_prime.ensures.above_one, c.field.ensures.field)) found c.loop-place.invariant c.row_of-row.ensures c.is_unit.ensures in
    record {
      shape = c.requires.check.shape;
      exists = omega (arith, length-words_of A.basis.items, A.basis.ok.0);
      relators_vanish = c.requires.relators;
      submodule_vanishes = c.requires.submodule;
      earlier = c.loop-place.invariant;
      fails = λ own. true≢false (sym (told.1 own) ∙ c.if-not-is_unit.true);
    }

pub loop-place-preserved : goal.loop-place-preserved
loop-place-preserved c =
    let P = c.args.presentation.now.presentation in
    let A = c.args.answer.now in
    let found : slice_get A.basis.items c.loop-place.place ≡ Some c.index.result.now =
    slice_get_read A.basis.items (length A.basis.items) c.loop-place.place c.index.result.now refl (omega (arith, A.basis.ok.0)) c.index.ensures in
    let told =
    own_row_told P A c.loop-place.place c.index.result.now c.row_of-row.result.now c.is_unit.result c.sums_extend.ensures c.reduced_lists_are_unique.ensures c.requires.check
    (omega (arith, c.has_prime.ensures.above_one, c.field.ensures.field)) found c.loop-place.invariant c.row_of-row.ensures c.is_unit.ensures in
    below_more (HasOwnRow P (answer_of A).action) c.loop-place.place c.loop-place.invariant (told.0 c.if-not-is_unit.false)

pub returns : goal.returns
returns c = λ row within. c.loop-place.invariant row (omega (arith, length-words_of c.args.answer.now.basis.items, c.args.answer.now.basis.ok.0))
