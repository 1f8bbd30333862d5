-- Whatever seats do, the machine stays sound and covered, and its history legal.
use Rattle.ve_theory.specs.Laws.{HasInverses, LevelsAreClosed}
use Rattle.ve_machine.specs.Seats.{State, opened_state}
use Rattle.ve_machine.specs.SharedSteps.{Leads, further, nowhere}
use Rattle.ve_machine.specs.Covered.{IsCovered, IsLegalHistory, IsSoundState}
use Rattle.ve_machine.specs.SharedLaws.{StatesOpen, StatesStayRight}
use Rattle.ve_machine.proofs.Forwardings.{positive_prime}
use Rattle.ve_machine.proofs.SoundSteps.{state_opens, steps_keep_sound}
use Rattle.ve_machine.proofs.CoveredSteps.{opening_covered, steps_keep_covered}
use Rattle.ve_machine.proofs.Histories.{history_opens, steps_keep_history}

abbrev IsRight : State → Type 0
IsRight S = IsSoundState S × IsCovered S × IsLegalHistory S

pub states_open : StatesOpen
states_open O seats sound packed = (state_opens O seats sound, opening_covered O seats (positive_prime O sound), history_opens O seats packed)

stays_right : HasInverses → LevelsAreClosed → (S T : State) → Leads S T → IsRight S → IsRight T
stays_right inverses closed S T nowhere right = right
stays_right inverses closed S last (further T U seat leads step) right =
    let before = stays_right inverses closed S T leads right in (
      steps_keep_sound inverses closed T U seat before.0 step,
      steps_keep_covered inverses closed T U seat before.0 step before.1,
      steps_keep_history inverses closed T U seat before.0 step before.2,
    )

pub states_stay_right : HasInverses → LevelsAreClosed → StatesStayRight
states_stay_right inverses closed O seats S sound packed leads = stays_right inverses closed (opened_state O seats) S leads (states_open O seats sound packed)
