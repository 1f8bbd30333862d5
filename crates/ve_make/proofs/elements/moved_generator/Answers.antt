use Rattle.std.proofs.Common.{subst, ap₂, ◌∙◌}
use Rattle.ve_theory.specs.Combinations.{unit}
use Rattle.ve_theory.specs.Words.{generator, times}
use Rattle.ve_theory.specs.Elements.{IsElementOf, element_times}
use Rattle.ve_pres.specs.declared.free_mod.FreeMod.{FreeMod}
use Rattle.ve_make.proofs.Vanishing.{same_element, word_reduced, moved, no_move}
use Rattle.ve_make.proofs.elements.moved_generator.Goals as goal

pub times-requires-clause-left : goal.times-requires-clause-left
times-requires-clause-left c = c.in_ok-generator.ensures.reduced _ c.requires

pub times-requires-clause-right : goal.times-requires-clause-right
times-requires-clause-right c = c.in_ok-letter.ensures.reduced _ c.requires

pub returns-in-Ok : goal.returns-in-Ok
returns-in-Ok c =
    same_element c.reduced_lists_are_unique.ensures c.args.field.now c.in-Ok.moved (unit (times (generator 0) c.args.letter)) (word_reduced _ _ c.requires)
    (subst (λ e. IsElementOf c.args.field.now c.in-Ok.moved e)
    (ap₂ element_times c.in_ok-generator.ensures.root c.in_ok-letter.ensures.letter ∙ moved c.args.letter) c.in-Ok.ensures.product)

pub unreachable-requires : goal.unreachable-requires
unreachable-requires c =
    no_move FreeMod c.args.letter c.in_ok-generator.generator c.in_ok-letter.letter _ _ c.in_ok-generator.ensures.root c.in_ok-letter.ensures.letter
    c.in-Err-Limit.field-0-is c.in-Err-Limit.ensures.limit
