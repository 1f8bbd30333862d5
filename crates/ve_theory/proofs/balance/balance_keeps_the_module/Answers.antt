use Rattle.ve_theory.proofs.BalancedAnswers.{balance_keeps_the_module}
use Rattle.ve_theory.proofs.balance.balance_keeps_the_module.Goals as goal

pub returns : goal.returns
returns c = balance_keeps_the_module
