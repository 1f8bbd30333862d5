use Rattle.std.proofs.Common.{◌≡◌, ◌+◌, ◌-◌, ◌<◌, ◌≤◌, ◌++◌, codes, length, arith, refl, sym, subst, ap, ◌∙◌, decimal, IfOk}
use Rattle.std.specs.Prelude.{slice_get, Some}
use Rattle.ve_out.specs.Parts.{zero_entries}
use Rattle.ve_out.proofs.Entries.{IsWritten, nothing_written, term_below, next_before_term, term_written, row_written, written_below}
use Rattle.ve_out.proofs.row.append_entries.Goals as goal

pub loop-written-init : goal.loop-written-init
loop-written-init c = nothing_written c.args.row.now (length c.args.row.now - 0) c.args.line.now.items (omega arith)

pub overflow_sub-place : goal.overflow_sub-place
overflow_sub-place c =
    let row = c.args.row.now in
    let at = c.len-terms.result - 1 - c.loop-written.written in
    let from : length row - c.loop-written.written ≡ at + 1 = omega (arith, c.len-terms.ensures, c.loop-written-test.true) in
    let inside : at < length row = omega (arith, c.len-terms.ensures, c.loop-written-test.true) in
    let written : IsWritten row (at + 1) c.loop-written.next c.args.line.now.items c.loop-written.line.items =
    subst (λ k. IsWritten row k c.loop-written.next c.args.line.now.items c.loop-written.line.items) from c.loop-written.invariant in
    next_before_term c.requires.row.0 c.args.count row c.requires.row.1 at (c.term-term.result.id, c.term-term.result.coef) inside c.term-term.ensures written

pub append_zeros-requires : goal.append_zeros-requires
append_zeros-requires c =
    let row = c.args.row.now in
    let at = c.len-terms.result - 1 - c.loop-written.written in
    let inside : at < length row = omega (arith, c.len-terms.ensures, c.loop-written-test.true) in
    let below = term_below c.requires.row.0 c.args.count row c.requires.row.1 at (c.term-term.result.id, c.term-term.result.coef) inside c.term-term.ensures in
    record {
      zeros = (c.args.count, c.requires.zeros, omega (arith, below));
      room = omega (arith, below, c.requires.room);
    }

pub loop-written-preserved : goal.loop-written-preserved
loop-written-preserved c =
    let row = c.args.row.now in
    let old = c.args.line.now.items in
    let at = c.len-terms.result - 1 - c.loop-written.written in
    let from : length row - c.loop-written.written ≡ at + 1 = omega (arith, c.len-terms.ensures, c.loop-written-test.true) in
    let next_from : length row - (c.loop-written.written + 1) ≡ at = omega (arith, c.len-terms.ensures, c.loop-written-test.true) in
    let inside : at < length row = omega (arith, c.len-terms.ensures, c.loop-written-test.true) in
    let written : IsWritten row (at + 1) c.loop-written.next old c.loop-written.line.items =
    subst (λ k. IsWritten row k c.loop-written.next old c.loop-written.line.items) from c.loop-written.invariant in
    let lines : c.append_number.new.line.items ≡ _ =
    c.in_ok-append_number.ensures ∙ ap (λ l. l ++ decimal c.from.result) (c.in_ok-append.ensures ∙ ap (λ l. l ++ codes " ") c.in_ok-append_zeros.ensures)
    ∙ ap (λ n. ((c.loop-written.line.items ++ zero_entries (c.term-term.result.id - c.loop-written.next)) ++ codes " ") ++ decimal n) c.from.ensures in
    subst (λ k. IsWritten row k (c.term-term.result.id + 1) old c.append_number.new.line.items) (sym next_from)
    (subst (IsWritten row at (c.term-term.result.id + 1) old) (sym lines)
    (term_written c.requires.row.0 c.args.count row c.requires.row.1 at (c.term-term.result.id, c.term-term.result.coef) inside c.term-term.ensures c.loop-written.next old c.loop-written.line.items _ written refl))

pub overflow_sub-count : goal.overflow_sub-count
overflow_sub-count c = written_below c.requires.row.0 c.args.count c.args.row.now _ c.loop-written.next _ _ c.requires.row.1 c.loop-written.invariant

pub append_zeros-requires-2 : goal.append_zeros-requires-2
append_zeros-requires-2 c = record { zeros = (c.args.count, c.requires.zeros, omega arith); room = omega (arith, c.requires.room) }

pub returns : goal.returns
returns c =
    let done : length c.args.row.now - c.loop-written.written ≡ 0 = omega (arith, c.len-terms.ensures, c.loop-written-test.false) in
    let whole = row_written c.requires.row.0 c.args.count c.args.row.now _ c.loop-written.next _ _ (zero_entries (c.args.count - c.loop-written.next)) c.requires.row.1 done c.loop-written.invariant refl in
    rw whole at c.append_zeros-2.ensures
