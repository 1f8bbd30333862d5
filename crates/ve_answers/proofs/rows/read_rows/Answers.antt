use Rattle.std.proofs.Common.{◌≡◌, length, arith}
use Rattle.std.proofs.lemmas.Option.{MatchOption-at_none, MatchOption-at_some}
use Rattle.std.proofs.lemmas.Result.{err_from_is_err_and}
use Rattle.ve_theory.specs.Answers.{Row}
use Rattle.ve_answers.specs.Rows.{IsRowLine}
use Rattle.ve_answers.proofs.RowSteps.{no_rows, one_row, row_refused, all_rows}
use Rattle.ve_answers.proofs.Steps.{ended_refused, taken_refused}
use Rattle.ve_answers.proofs.rows.read_rows.Goals as goal

pub loop-at-init : goal.loop-at-init
loop-at-init c = no_rows c.args.head.now c.args.word.now c.args.count c.args.lines.now _ c.new-rows.ensures.items c.requires

pub next-requires : goal.next-requires
next-requires c = c.loop-at.invariant.counted

pub loop-at-preserved : goal.loop-at-preserved
loop-at-preserved c =
    let is : IsRowLine c.args.head.now c.args.word.now c.in_ok-line.line.now c.in-Some.row = MatchOption-at_some _ _ c.in-Some.row c.in-Some.is c.in_ok-row.ensures in
    one_row c.args.head.now c.args.word.now c.args.count c.args.lines.now c.loop-at._at c.loop-at.rows.items c.loop-at.lines c.loop-at-test.true c.loop-at.invariant
    c.in_ok-line.line.now c.in-Some.row c.next.new.self c.in_ok-line.ensures.ok is c.push.new.self.items c.in_ok-push.ensures.items

pub returns-in_err-line-clause-err : goal.returns-in_err-line-clause-err
returns-in_err-line-clause-err c =
    let failed = err_from_is_err_and c.from_residual.result c.from_residual.ensures.1 in
    let ended = c.in_err-line.ensures.err in
    rw (failed.1, failed.2)
    (row_refused c.args.head.now c.args.word.now c.args.count c.args.lines.now c.loop-at._at c.loop-at.rows.items c.loop-at.lines c.loop-at-test.true c.loop-at.invariant
    _ (ended_refused (λ line. (v : Row) × IsRowLine c.args.head.now c.args.word.now line v) ended.0 ended.1))

pub returns-in_default-clause-err : goal.returns-in_default-clause-err
returns-in_default-clause-err c =
    let none : (v : Row) → IsRowLine c.args.head.now c.args.word.now c.in_ok-line.line.now v → ⊥ = MatchOption-at_none _ _ c.in_default.is c.in_ok-row.ensures in
    row_refused c.args.head.now c.args.word.now c.args.count c.args.lines.now c.loop-at._at c.loop-at.rows.items c.loop-at.lines c.loop-at-test.true c.loop-at.invariant
    c.refusal.result (taken_refused (λ line. (v : Row) × IsRowLine c.args.head.now c.args.word.now line v) c.in_ok-line.ensures.ok c.refusal.ensures (λ a. none a.0 a.1))

pub returns-clause-ok : goal.returns-clause-ok
returns-clause-ok c = all_rows c.args.head.now c.args.word.now c.args.count c.args.lines.now c.loop-at._at c.loop-at.rows.items c.loop-at.lines c.loop-at-test.false c.loop-at.invariant

pub returns-clause-counted : goal.returns-clause-counted
returns-clause-counted c = c.loop-at.invariant.counted

pub returns-clause-count : goal.returns-clause-count
returns-clause-count c = let size : length c.loop-at.rows.items ≡ c.loop-at._at = c.loop-at.invariant.size in omega (arith, size, c.loop-at-test.false)

pub returns-clause-rows : goal.returns-clause-rows
returns-clause-rows c = c.loop-at.invariant.all

pub returns-clause-few : goal.returns-clause-few
returns-clause-few c = let size : length c.loop-at.rows.items ≡ c.loop-at._at = c.loop-at.invariant.size in omega (arith, size)
