use Rattle.std.proofs.lemmas.Result.{IfOk-weaker}
use Rattle.std.proofs.lemmas.List.{nil_from_length}
use Rattle.ve_trace.proofs.Rows.{has_rows, sum_whole}
use Rattle.ve_trace.proofs.Tracings.{way_starts, way_finds, way_goes_on, way_ends, way_finds_at, way_goes_on_at, way_ends_at}
use Rattle.ve_trace.proofs.times.times_letters.Goals as goal

pub returns-in_default : goal.returns-in_default
returns-in_default g c =
    let none = nil_from_length c.args.letters.now c.in_default.ensures.cases in
    IfOk-weaker c.copy.result _ _
    (λ v e. rw e (way_ends _ (g.R.Rows.rows c.args.rows.now) c.args.start.now c.args.start.now c.args.letters.now (way_starts _ _ _ _ _ none c.requires.start c.requires.found)))
    c.copy.ensures

pub times_letter-requires-clause-found : goal.times_letter-requires-clause-found
times_letter-requires-clause-found g c =
    way_finds _ _ c.args.start.now c.args.start.now c.args.letters.now c.in-Some.rest.now c.in-Some.first.now
    (way_starts _ (g.R.Rows.rows c.args.rows.now) _ _ _ c.in-Some.ensures.cases.0 c.requires.start c.requires.found)

pub loop-letter-init : goal.loop-letter-init
loop-letter-init g c =
    way_goes_on _ (g.R.Rows.rows c.args.rows.now) c.args.start.now c.args.start.now c.in_ok-vector.vector c.args.letters.now c.in-Some.rest.now c.in-Some.first.now
    (way_starts _ _ _ _ _ c.in-Some.ensures.cases.0 c.requires.start c.requires.found) c.in_ok-vector.ensures

pub times_letter-requires-then-len-eq1-clause-found : goal.times_letter-requires-then-len-eq1-clause-found
times_letter-requires-then-len-eq1-clause-found g c =
    way_finds_at _ (g.R.Rows.rows c.args.rows.now) c.args.start.now c.args.letters.now c.loop-letter.vector c.in-Some.rest.now c.loop-letter.letter-index c.loop-letter-test.true c.loop-letter.invariant

pub loop-letter-preserved-then-len-eq1 : goal.loop-letter-preserved-then-len-eq1
loop-letter-preserved-then-len-eq1 g c =
    way_goes_on_at _ (g.R.Rows.rows c.args.rows.now) c.args.start.now c.args.letters.now c.loop-letter.vector c.in_ok-vector-2.vector c.in-Some.rest.now c.loop-letter.letter-index
    c.loop-letter-test.true c.loop-letter.invariant c.in_ok-vector-2.ensures

pub sum_of_rows-requires-clause-found : goal.sum_of_rows-requires-clause-found
sum_of_rows-requires-clause-found g c =
    has_rows c.args.field.now (g.R.Rows.rows c.args.rows.now) c.loop-letter.vector _ c.loop-letter.invariant.reduced
    (way_finds_at _ (g.R.Rows.rows c.args.rows.now) c.args.start.now c.args.letters.now c.loop-letter.vector c.in-Some.rest.now c.loop-letter.letter-index c.loop-letter-test.true c.loop-letter.invariant)

pub loop-letter-preserved : goal.loop-letter-preserved
loop-letter-preserved g c =
    way_goes_on_at _ (g.R.Rows.rows c.args.rows.now) c.args.start.now c.args.letters.now c.loop-letter.vector c.in_ok-next.next c.in-Some.rest.now c.loop-letter.letter-index
    c.loop-letter-test.true c.loop-letter.invariant
    (sum_whole c.args.field.now (g.R.Rows.rows c.args.rows.now) c.loop-letter.vector c.in_ok-next.next _ _ c.len-in-loop-letter.ensures c.in_ok-next.ensures)

pub returns : goal.returns
returns g c =
    way_ends_at _ (g.R.Rows.rows c.args.rows.now) c.args.start.now c.args.letters.now c.loop-letter.vector c.in-Some.rest.now c.loop-letter.letter-index c.loop-letter-test.false c.loop-letter.invariant
