use Rattle.ve_theory.proofs.UniqueAnswers.{lists_are_unique}
use Rattle.ve_theory.proofs.uniqueness.lists_are_unique.Goals as goal

pub returns : goal.returns
returns c = lists_are_unique
