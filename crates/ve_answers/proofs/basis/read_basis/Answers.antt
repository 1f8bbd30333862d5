use Rattle.std.proofs.Common.{◌≡◌, List, length, arith}
use Rattle.std.proofs.lemmas.Option.{MatchOption-at_none, MatchOption-at_some}
use Rattle.std.proofs.lemmas.Result.{err_from_is_err_and}
use Rattle.ve_theory.specs.Words.{Word}
use Rattle.ve_table.specs.Books.{words_of}
use Rattle.ve_answers.specs.Basis.{IsBasisLine, IsBasisOrigin}
use Rattle.ve_answers.proofs.BasisSteps.{no_words, few_texts, one_word, word_refused, all_words}
use Rattle.ve_answers.proofs.Steps.{ended_refused, taken_refused}
use Rattle.ve_answers.proofs.basis.read_basis.Goals as goal

pub loop-place-init : goal.loop-place-init
loop-place-init c = no_words c.args.head.now c.args.lines.now _ _ c.new-basis.ensures.items c.new-texts.ensures c.requires.counted

pub next-requires : goal.next-requires
next-requires c = c.loop-place.invariant.counted

pub next_origin-requires-clause-places : goal.next_origin-requires-clause-places
next_origin-requires-clause-places c =
    let size : length c.loop-place.texts ≡ c.loop-place._place = few_texts c.args.head.now c.args.lines.now c.loop-place._place c.loop-place.basis.items c.loop-place.texts c.loop-place.lines c.loop-place.invariant in
    omega (arith, size, c.loop-place-test.true)

pub loop-place-preserved : goal.loop-place-preserved
loop-place-preserved c =
    let before = c.loop-place.invariant in
    let words : List Word = words_of c.loop-place.basis.items in
    let adds : IsBasisOrigin c.args.head.now words c.in_ok-line.line.now c.next_origin.new.texts c.in-Some.origin =
    MatchOption-at_some _ _ c.in-Some.origin c.in-Some.is (c.in_ok-origin.ensures words before.listed before.written) in
    one_word c.args.head.now c.args.lines.now c.loop-place._place c.loop-place.basis.items c.loop-place.texts c.loop-place.lines c.loop-place-test.true before
    c.requires.head c.in_ok-line.line.now c.in-Some.origin c.next_origin.new.texts c.next.new.self c.in_ok-line.ensures.ok adds c.push.new.self.items c.in_ok-push.ensures.items

pub returns-in_err-line-clause-err : goal.returns-in_err-line-clause-err
returns-in_err-line-clause-err c =
    let failed = err_from_is_err_and c.from_residual.result c.from_residual.ensures.1 in
    let ended = c.in_err-line.ensures.err in
    rw (failed.1, failed.2)
    (word_refused c.args.head.now c.args.lines.now c.loop-place._place c.loop-place.basis.items c.loop-place.texts c.loop-place.lines c.loop-place-test.true c.loop-place.invariant
    _ (ended_refused (λ line. (w : Word) × IsBasisLine c.args.head.now (words_of c.loop-place.basis.items) line w) ended.0 ended.1))

pub returns-in_default-clause-err : goal.returns-in_default-clause-err
returns-in_default-clause-err c =
    let before = c.loop-place.invariant in
    let words : List Word = words_of c.loop-place.basis.items in
    let none : (w : Word) → IsBasisLine c.args.head.now words c.in_ok-line.line.now w → ⊥ =
    MatchOption-at_none _ _ c.in_default.is (c.in_ok-origin.ensures words before.listed before.written) in
    word_refused c.args.head.now c.args.lines.now c.loop-place._place c.loop-place.basis.items c.loop-place.texts c.loop-place.lines c.loop-place-test.true before
    c.refusal.result (taken_refused (λ line. (w : Word) × IsBasisLine c.args.head.now words line w) c.in_ok-line.ensures.ok c.refusal.ensures (λ a. none a.0 a.1))

pub returns-clause-ok : goal.returns-clause-ok
returns-clause-ok c = all_words c.args.head.now c.args.lines.now c.loop-place._place c.loop-place.basis.items c.loop-place.texts c.loop-place.lines c.loop-place-test.false c.loop-place.invariant

pub returns-clause-counted : goal.returns-clause-counted
returns-clause-counted c = c.loop-place.invariant.counted

pub returns-clause-origins : goal.returns-clause-origins
returns-clause-origins c = c.loop-place.invariant.earlier
