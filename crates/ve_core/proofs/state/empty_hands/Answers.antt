use Rattle.std.proofs.Common.{◌++◌, ◌∷◌, [], sym, ◌∙◌}
use Rattle.std.proofs.lemmas.Grind.{replicate_next}
use Rattle.ve_machine.specs.Hands.{empty_hand}
use Rattle.ve_core.proofs.state.empty_hands.Goals as goal

pub loop-seat-preserved : goal.loop-seat-preserved
loop-seat-preserved c = c.in_ok-push.ensures.items ∙ (λ i. c.loop-seat.invariant i ++ c.empty.ensures.value i ∷ []) ∙ sym (replicate_next c.loop-seat._seat empty_hand)
