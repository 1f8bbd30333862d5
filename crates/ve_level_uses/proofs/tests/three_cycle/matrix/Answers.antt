use Rattle.std.proofs.Common.{◌<◌, sym, subst, ◌∙◌}
use Rattle.std.proofs.lemmas.List.Elements.{All-weaker}
use Rattle.ve_theory.specs.Combinations.{IsReduced}
use Rattle.ve_theory.specs.Answers.{Row, IsRow}
use Rattle.ve_matrix.specs.Matrices.{HasResidues}
use Rattle.ve_level_uses.proofs.TripleAnswers.{units_are_rows, units_columns}
use Rattle.ve_level_uses.proofs.tests.three_cycle.matrix.Goals as goal

pub of_rows-requires-clause-columns : goal.of_rows-requires-clause-columns
of_rows-requires-clause-columns c = units_columns c.args.places.now c.in_ok-rows.rows.items c.in_ok-rows.ensures c.requires.count c.requires.places

pub returns-clause-residues : goal.returns-clause-residues
returns-clause-residues c =
    subst (HasResidues 7) (sym (c.of_rows.ensures ∙ c.in_ok-rows.ensures))
    (All-weaker (IsRow 7 3) (λ (row : Row). IsReduced ◌<◌ 7 row) (λ row is. is.0) _ (units_are_rows c.args.places.now c.requires.places))
