use Rattle.std.proofs.Common.{◌≡◌, ◌<◌, All, sym, subst}
use Rattle.ve_theory.specs.Words.{start, letters}
use Rattle.ve_level_uses.proofs.TripleAnswers.{letter_pushed, root_pair}
use Rattle.ve_level_uses.proofs.tests.three_cycle.power.Goals as goal

pub loop-init : goal.loop-init
loop-init c = root_pair _ c.root-word.ensures

pub loop-preserved : goal.loop-preserved
loop-preserved c = subst (λ w. (start w ≡ 0) × All (λ x. x < 2) (letters w)) (sym c.in_ok-push.ensures.ok) (letter_pushed c.loop.word c.loop.invariant)
