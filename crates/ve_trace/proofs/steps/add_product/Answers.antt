use Rattle.std.proofs.Common.{arith}
use Rattle.std.proofs.lemmas.List.{drop_all, take_rest}
use Rattle.ve_trace.proofs.Following.{term_added, first_finds, product_added}
use Rattle.ve_trace.proofs.steps.add_product.Goals as goal

pub returns-then-done-letters : goal.returns-then-done-letters
returns-then-done-letters g c =
    term_added _ (g.R.Rows.rows c.args.rows.now) c.args.start c.args.letters.now c.args.by _ _ c.follow-done.ensures.leads c.args.sum.now _
    (drop_all c.follow-done.result.1 c.args.letters.now (omega (arith, c.if-done-letters.true))) c.in_ok-add_scaled_term.ensures.ok

pub times_letters-requires-clause-found : goal.times_letters-requires-clause-found
times_letters-requires-clause-found g c =
    rw take_rest
    (first_finds _ (g.R.Rows.rows c.args.rows.now) c.args.start c.args.letters.now c.args.by _ _ c.follow-done.ensures.leads c.args.sum.now c.args.sum.now
    _ _ c.zero-first.ensures.value c.in_ok-add_scaled_term-2.ensures.ok)

pub returns : goal.returns
returns g c =
    product_added _ (g.R.Rows.rows c.args.rows.now) c.args.start c.args.letters.now c.args.by _ _ c.follow-done.ensures.leads c.args.sum.now _
    _ _ c.zero-first.ensures.value c.in_ok-add_scaled_term-2.ensures.ok _ (rw take_rest at c.in_ok-product.ensures) c.in_ok-add_moved.ensures
