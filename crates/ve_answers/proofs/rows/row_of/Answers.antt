use Rattle.std.proofs.Common.{◌<◌, ◌++◌, All, arith, sym, subst}
use Rattle.std.specs.Prelude.{nat_eq, IsTrue}
use Rattle.ve_theory.specs.Combinations.{scaled, IsReducedOf}
use Rattle.ve_answers.proofs.RowEntries.{entry_small, entry_taken, no_entries}
use Rattle.ve_answers.proofs.rows.row_of.Goals as goal

pub loop-entry-init : goal.loop-entry-init
loop-entry-init c = no_entries c.args.field.now c.args.entries.now _ c.zero-row.ensures.value (c.zero-row.ensures.fits c.args.field.now)

pub loop-entry-preserved : goal.loop-entry-preserved
loop-entry-preserved c =
    entry_taken c.args.field.now c.args.entries.now c.loop-entry.left.now c.in-Some.before.now c.in-Some.entry.now c.loop-entry.row c.loop-entry.invariant c.in-Some.ensures.cases.0
    c.add_scaled-in-Some.new.self (omega (arith, c.has_prime.ensures.above_one)) c.requires.residues
    (subst (λ u. IsReducedOf ◌<◌ nat_eq c.args.field.now c.add_scaled-in-Some.new.self (c.loop-entry.row ++ scaled c.in-Some.entry.now u)) c.unit.ensures.value c.in_ok-add_scaled.ensures.ok)
    (λ among held one. c.in_ok-add_scaled.ensures.ids among held (subst (All (λ t. IsTrue (among t.0))) (sym c.unit.ensures.value) one))

pub add_scaled-requires-clause-residue : goal.add_scaled-requires-clause-residue
add_scaled-requires-clause-residue c =
    entry_small c.args.field.now c.args.entries.now c.loop-entry.left.now c.in-Some.before.now c.in-Some.entry.now c.loop-entry.row c.loop-entry.invariant c.in-Some.ensures.cases.0
    c.requires.residues
