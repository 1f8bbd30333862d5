use Rattle.std.proofs.Common.{refl, ap, length, ◌∙◌}
use Rattle.std.proofs.lemmas.List.{length-map}
use Rattle.ve_theory.specs.Combinations.{unit}
use Rattle.ve_level_uses.proofs.TripleAnswers.{triple_value}
use Rattle.ve_level_uses.proofs.tests.three_cycle.answer.Goals as goal

pub returns-clause-value : goal.returns-clause-value
returns-clause-value c =
    triple_value _ c.args.image c.args.first.now c.args.second.now c.requires.field (ap length c.in_ok-names.ensures) refl c.in_ok-basis.ensures c.in_ok-units.ensures c.in_ok-matrices.ensures
    c.requires.image (length-map c.args.first.now unit ∙ c.requires.first_count) c.requires.first (length-map c.args.second.now unit ∙ c.requires.second_count) c.requires.second
