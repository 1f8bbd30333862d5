use Rattle.std.proofs.Common.{◌≡◌, ◌<◌, ℕ, List, All, length, arith, sym, subst}
use Rattle.std.specs.Prelude.{◌^◌, nat_eq, slice_index}
use Rattle.std.proofs.lemmas.Option.{MatchOption-at_none, MatchOption-at_some}
use Rattle.ve_theory.specs.Answers.{IsRow}
use Rattle.ve_theory.specs.Combinations.{coefficient}
use Rattle.ve_answers.specs.Rows.{IsEntryLine}
use Rattle.ve_answers.proofs.RowEntries.{row_has_entries, entries_have_row}
use Rattle.ve_answers.proofs.rows.read_row.Goals as goal

pub returns-in_default : goal.returns-in_default
returns-in_default c v is =
    let none : (entries : List ℕ) → IsEntryLine c.args.head.now c.args.word.now c.args.line.now entries → ⊥ = MatchOption-at_none _ _ c.in_default.is c.in_ok-entries.ensures.entries in
    let has = row_has_entries c.args.head.now c.args.word.now c.args.line.now v (omega (arith, c.has_prime.ensures.above_one)) is in
    none has.0 has.1

pub row_of-requires-clause-residues : goal.row_of-requires-clause-residues
row_of-requires-clause-residues c =
    let line : IsEntryLine c.args.head.now c.args.word.now c.args.line.now c.in-Some.entries.items = MatchOption-at_some _ _ c.in-Some.entries c.in-Some.is c.in_ok-entries.ensures.entries in
    subst (All (λ entry. entry < c.args.head.now.field)) (sym c.deref.ensures.value) line.residues

pub row_of-requires-clause-room : goal.row_of-requires-clause-room
row_of-requires-clause-room c =
    subst (λ entries. length entries < 2 ^ 32) (sym c.deref.ensures.value) (MatchOption-at_some _ _ c.in-Some.entries c.in-Some.is c.in_ok-entries.ensures.few)

pub returns : goal.returns
returns c =
    let line : IsEntryLine c.args.head.now c.args.word.now c.args.line.now c.in-Some.entries.items = MatchOption-at_some _ _ c.in-Some.entries c.in-Some.is c.in_ok-entries.ensures.entries in
    entries_have_row c.args.head.now c.args.word.now c.args.line.now c.in-Some.entries.items c.in_ok-row.row line
    (subst (λ entries. IsRow c.args.head.now.field (length entries) c.in_ok-row.row) c.deref.ensures.value c.in_ok-row.ensures.row)
    (subst (λ entries. (place : ℕ) → coefficient nat_eq c.in_ok-row.row place ≡ slice_index entries place) c.deref.ensures.value c.in_ok-row.ensures.entries)
