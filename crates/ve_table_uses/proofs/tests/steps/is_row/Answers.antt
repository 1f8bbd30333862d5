use Rattle.std.proofs.Common.{ℕ, ◌<◌, ◌≤◌, length, arith, subst, sym, ap, ◌∙◌}
use Rattle.std.proofs.lemmas.List.Elements.{All-nil, All-weaker}
use Rattle.ve_theory.specs.Combinations.{IsReduced}
use Rattle.ve_theory.specs.Answers.{Row, IsRow}
use Rattle.ve_theory.proofs.Reduced.{All_from_AllBefore}
use Rattle.ve_table.specs.Tables.{presented}
use Rattle.ve_table_uses.proofs.tests.steps.is_row.Goals as goal

pub returns-in_default : goal.returns-in_default
unfolding IsReduced
returns-in_default c answered =
    let Fits : Row → Type 0 = λ v. IsRow (presented c.args.table.now).prime (length c.args.table.now.words) v in
    subst Fits (sym (c.in_default.ensures.zero.0 cc)) (tt, All-nil (λ (t : ℕ × ℕ). t.0 < length c.args.table.now.words))

pub returns-then-greatest-id_count : goal.returns-then-greatest-id_count
returns-then-greatest-id_count c answered =
    let same = c.field.ensures.field ∙ ap (λ d. d.presentation.prime) c.presentation.ensures.value in (
      subst (λ p. IsReduced ◌<◌ p c.args.vector.now) same (c.fits.ensures.reduced answered),
      All-weaker (λ (t : ℕ × ℕ). t.0 ≤ c.in-Some.greatest.id) (λ (t : ℕ × ℕ). t.0 < length c.args.table.now.words)
          (λ t below. omega (arith, below, c.if-greatest-id_count.true, c.id_count.ensures))
          c.args.vector.now (All_from_AllBefore ◌≤◌ c.in-Some.greatest.id c.args.vector.now c.in-Some.ensures.greatest),
    )
