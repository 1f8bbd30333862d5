use Rattle.std.proofs.Common.{◌≡◌, ◌∙◌, length, take, sym, ap, arith}
use Rattle.std.proofs.lemmas.List.{length-map, take_all}
use Rattle.ve_vec.specs.Terms.{pair_of}
use Rattle.ve_trace.proofs.Adding.{listed, nothing_added, term_added}
use Rattle.ve_trace.proofs.Rows.{is_residue}
use Rattle.ve_trace.proofs.sums.add_row.Goals as goal

pub loop-term-init : goal.loop-term-init
loop-term-init c = nothing_added c.args.by c.args.row.now c.requires.fits

pub add_scaled_term-requires-clause-term : goal.add_scaled_term-requires-clause-term
add_scaled_term-requires-clause-term c =
    is_residue _ c.args.row.now _ _ _ c.requires.row_fits (listed c.terms-term-items.result.now c.args.row.now c.loop-term.term-index _ c.terms-term-items.ensures c.loop-term-test.true)

pub loop-term-preserved : goal.loop-term-preserved
loop-term-preserved c =
    term_added c.args.by _ c.args.row.now c.loop-term.term-index _ (listed c.terms-term-items.result.now c.args.row.now c.loop-term.term-index _ c.terms-term-items.ensures c.loop-term-test.true)
    c.loop-term.invariant c.in_ok-add_scaled_term.ensures.ok

pub returns : goal.returns
returns c =
    let as_many : length c.args.row.now ≡ length c.terms-term-items.result.now = ap length (sym c.terms-term-items.ensures) ∙ length-map c.terms-term-items.result.now pair_of in
    let whole : take c.loop-term.term-index c.args.row.now ≡ c.args.row.now = take_all _ _ (omega (arith, c.loop-term-test.false, as_many)) in
    rw whole at c.loop-term.invariant
