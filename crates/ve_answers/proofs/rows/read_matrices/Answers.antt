use Rattle.std.proofs.Common.{◌≡◌, ◌<◌, ◌++◌, ◌∷◌, [], List, ℕ, All, get_or, length, arith, sym, subst, ap, ◌∙◌}
use Rattle.std.specs.Prelude.{codes}
use Rattle.std.proofs.lemmas.Bool.{both_ways}
use Rattle.std.proofs.lemmas.List.Elements.{All-weaker}
use Rattle.std.proofs.lemmas.Option.{slice_get-get_or}
use Rattle.std.proofs.lemmas.Result.{err_from_is_err_and}
use Rattle.ve_theory.specs.Answers.{IsRow}
use Rattle.ve_matrix.specs.Matrices.{HasColumnsBelow}
use Rattle.ve_answers.proofs.MatrixSteps.{no_matrices, all_matrices, one_matrix, rows_refused, letter_refused}
use Rattle.ve_answers.proofs.Steps.{ended_refused, taken_refused}
use Rattle.ve_answers.proofs.rows.read_matrices.Goals as goal

pub loop-letter-init : goal.loop-letter-init
loop-letter-init c = no_matrices c.args.head.now c.args.lines.now _ c.new-matrices.ensures.items c.requires

pub next-requires : goal.next-requires
next-requires c = c.loop-letter.invariant.counted

pub returns-in_err-next-clause-err : goal.returns-in_err-next-clause-err
returns-in_err-next-clause-err c =
    let failed = err_from_is_err_and c.from_residual.result c.from_residual.ensures.1 in
    let ended = c.in_err-next.ensures.err in
    let less : c.loop-letter.letter < length c.args.head.now.names = omega (arith, c.loop-letter-test.true, c.count-letter-end.ensures.count) in
    let name : List ℕ = get_or c.args.head.now.names c.loop-letter.letter [] in
    rw (failed.1, failed.2)
    (letter_refused c.args.head.now c.args.lines.now c.loop-letter.letter c.loop-letter.matrices.items c.loop-letter.lines less c.loop-letter.invariant name (slice_get-get_or c.args.head.now.names c.loop-letter.letter [] less)
    _ (ended_refused (λ line. line ≡ codes "letter " ++ name) ended.0 ended.1))

pub returns-then-not-names_letter-clause-err : goal.returns-then-not-names_letter-clause-err
returns-then-not-names_letter-clause-err c =
    let less : c.loop-letter.letter < length c.args.head.now.names = omega (arith, c.loop-letter-test.true, c.count-letter-end.ensures.count) in
    letter_refused c.args.head.now c.args.lines.now c.loop-letter.letter c.loop-letter.matrices.items c.loop-letter.lines less c.loop-letter.invariant c.name.result.now c.name.ensures
    c.refusal.result (taken_refused (λ line. line ≡ codes "letter " ++ c.name.result.now) c.in_ok-next.ensures.ok c.refusal.ensures (λ is. both_ways c.names_letter.result c.if-not-names_letter.true (c.names_letter.ensures.1 is)))

pub returns-in_err-rows-clause-err : goal.returns-in_err-rows-clause-err
returns-in_err-rows-clause-err c =
    let failed = err_from_is_err_and c.from_residual-in_err-rows.result c.from_residual-in_err-rows.ensures.1 in
    let less : c.loop-letter.letter < length c.args.head.now.names = omega (arith, c.loop-letter-test.true, c.count-letter-end.ensures.count) in
    rw (failed.1, failed.2)
    (rows_refused c.args.head.now c.args.lines.now c.loop-letter.letter c.loop-letter.matrices.items c.loop-letter.lines less c.loop-letter.invariant c.name.result.now c.name.ensures
    c.next.new.self c.in_ok-next.field-0.now _ c.in_ok-next.ensures.ok (c.names_letter.ensures.0 c.if-not-names_letter.false) c.in_err-rows.ensures.err)

pub of_rows-requires-clause-count : goal.of_rows-requires-clause-count
of_rows-requires-clause-count c = c.in_ok-rows.ensures.few

pub of_rows-requires-clause-columns : goal.of_rows-requires-clause-columns
of_rows-requires-clause-columns c =
    subst (λ n. HasColumnsBelow n c.in_ok-rows.rows.items) (sym c.in_ok-rows.ensures.count)
    (All-weaker (IsRow c.args.head.now.field c.args.head.now.dimension) (λ row. All (λ t. t.0 < c.args.head.now.dimension) row) (λ row is. is.1) c.in_ok-rows.rows.items c.in_ok-rows.ensures.rows)

pub loop-letter-preserved : goal.loop-letter-preserved
loop-letter-preserved c =
    let less : c.loop-letter.letter < length c.args.head.now.names = omega (arith, c.loop-letter-test.true, c.count-letter-end.ensures.count) in
    one_matrix c.args.head.now c.args.lines.now c.loop-letter.letter c.loop-letter.matrices.items c.loop-letter.lines less c.loop-letter.invariant c.name.result.now c.name.ensures
    c.next.new.self c.read_rows.new.lines c.in_ok-next.field-0.now c.in_ok-rows.rows.items c.in_ok-next.ensures.ok (c.names_letter.ensures.0 c.if-not-names_letter.false) c.in_ok-rows.ensures.ok c.in_ok-rows.ensures.counted
    c.push.new.self.items (c.in_ok-push.ensures.items ∙ ap (λ m. c.loop-letter.matrices.items ++ m ∷ []) c.of_rows.ensures)

pub returns-clause-ok : goal.returns-clause-ok
returns-clause-ok c =
    all_matrices c.args.head.now c.args.lines.now c.loop-letter.letter c.loop-letter.matrices.items c.loop-letter.lines (omega (arith, c.loop-letter-test.false, c.count-letter-end.ensures.count)) c.loop-letter.invariant

pub returns-clause-counted : goal.returns-clause-counted
returns-clause-counted c = c.loop-letter.invariant.counted
