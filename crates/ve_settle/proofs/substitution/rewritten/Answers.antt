use Rattle.std.proofs.Common.{◌≡◌, ℕ, ◌<◌, [], length, take, ap, ◌∙◌, arith}
use Rattle.std.proofs.lemmas.List.{take_all}
use Rattle.ve_theory.specs.Combinations.{extended}
use Rattle.ve_theory.proofs.Sums.{prime-large, SameWeights-refl}
use Rattle.ve_table.specs.Tables.{presented}
use Rattle.ve_machine.specs.Forwards.{stand_in}
use Rattle.ve_settle.proofs.Vectors.{part_more, term_all, term_residue}
use Rattle.ve_machine.proofs.ReducedSums.{joined, reduced_same}
use Rattle.ve_machine.proofs.Forwardings.{dead_stands, live_stands}
use Rattle.ve_settle.proofs.Substituting.{left_more, right_more}
use Rattle.ve_settle.proofs.substitution.rewritten.Goals as goal
use Rattle.ve_settle.proofs.substitution.rewritten.Goals.{in-Some+in_ok-add_scaled-in-Some, in-None+in_ok-add_term-in-None}

pub loop-at-init : goal.loop-at-init
unfolding extended
loop-at-init c = record {
  kept = c.zero-kept.ensures.fits (presented c.args.table.now).prime;
  brought = c.zero-brought.ensures.fits (presented c.args.table.now).prime;
  sum = rw (c.zero-kept.ensures.value, c.zero-brought.ensures.value) (SameWeights-refl (presented c.args.table.now).prime []);
}

pub forward-requires : goal.forward-requires
forward-requires c = term_all (λ t. t.0 < length c.args.table.now.words) _ _ _ c.term-term.ensures c.requires.1

pub add_scaled-requires-clause-other_fits : goal.add_scaled-requires-clause-other_fits
add_scaled-requires-clause-other_fits c =
    let same : c.field.result.now ≡ (presented c.args.table.now).prime = c.field.ensures.field ∙ ap (λ d. d.presentation.prime) c.presentation.ensures.value in
    rw same (c.presentation.ensures.sound.forwards _ _ c.in-Some.ensures).stands.row.0

pub add_scaled-requires-clause-residue : goal.add_scaled-requires-clause-residue
add_scaled-requires-clause-residue c =
    let same : c.field.result.now ≡ (presented c.args.table.now).prime = c.field.ensures.field ∙ ap (λ d. d.presentation.prime) c.presentation.ensures.value in
    rw same (term_residue (presented c.args.table.now).prime _ _ _ c.requires.0 c.term-term.ensures).1

pub add_term-requires-clause-large : goal.add_term-requires-clause-large
add_term-requires-clause-large c =
    let same : c.field.result.now ≡ (presented c.args.table.now).prime = c.field.ensures.field ∙ ap (λ d. d.presentation.prime) c.presentation.ensures.value in
    rw same (prime-large (presented c.args.table.now).prime c.presentation.ensures.sound.valid.presentation.field)

pub add_term-requires-clause-residue : goal.add_term-requires-clause-residue
add_term-requires-clause-residue c =
    let same : c.field.result.now ≡ (presented c.args.table.now).prime = c.field.ensures.field ∙ ap (λ d. d.presentation.prime) c.presentation.ensures.value in
    rw same (term_residue (presented c.args.table.now).prime _ _ _ c.requires.0 c.term-term.ensures).1

pub loop-at-preserved : goal.loop-at-preserved
loop-at-preserved c =
    let p : ℕ = (presented c.args.table.now).prime in
    let same : c.field.result.now ≡ p = c.field.ensures.field ∙ ap (λ d. d.presentation.prime) c.presentation.ensures.value in
    let next_is = part_more c.args.vector.now c.loop-at.at _ c.term-term.ensures in
    elim c.match-forward.branch [
      | in-Some+in_ok-add_scaled-in-Some w ↦
          let sum = rw same at w.in_ok-add_scaled-in-Some.ensures.ok in
          rw (w.kept-is, w.brought-is) (record {
            kept = c.loop-at.invariant.kept;
            brought = sum.reduced;
            sum = right_more p (stand_in c.args.table.now.forwards) _ _ c.term-term.result.id c.term-term.result.coef next_is _ _ _ _ (dead_stands c.args.table.now.forwards c.term-term.result.id _ w.in-Some.ensures) c.loop-at.invariant.sum (reduced_same _ _ _ sum);
          })
      | in-None+in_ok-add_term-in-None w ↦
          let sum = rw same at w.in_ok-add_term-in-None.ensures in
          rw (w.kept-is, w.brought-is) (record {
            kept = sum.reduced;
            brought = c.loop-at.invariant.brought;
            sum = left_more p (stand_in c.args.table.now.forwards) _ _ c.term-term.result.id c.term-term.result.coef next_is _ _ _ _ (live_stands c.args.table.now.forwards c.term-term.result.id w.in-None.ensures) c.loop-at.invariant.sum (reduced_same _ _ _ sum);
          })
    ]

pub add_scaled-requires-2-clause-residue : goal.add_scaled-requires-2-clause-residue
add_scaled-requires-2-clause-residue c =
    let same : c.field.result.now ≡ (presented c.args.table.now).prime = c.field.ensures.field ∙ ap (λ d. d.presentation.prime) c.presentation.ensures.value in
    rw same (prime-large (presented c.args.table.now).prime c.presentation.ensures.sound.valid.presentation.field)

pub returns : goal.returns
returns c =
    let same : c.field.result.now ≡ (presented c.args.table.now).prime = c.field.ensures.field ∙ ap (λ d. d.presentation.prime) c.presentation.ensures.value in
    let whole : take c.loop-at.at c.args.vector.now ≡ c.args.vector.now = take_all _ _ (omega (arith, c.loop-at-test.false, c.len-at-end.ensures)) in
    joined (presented c.args.table.now).prime _ _ _ _ (rw whole at c.loop-at.invariant.sum) (rw same at c.in_ok-add_scaled.ensures.ok)
