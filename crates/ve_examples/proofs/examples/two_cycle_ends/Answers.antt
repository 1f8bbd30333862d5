use Rattle.ve_examples.proofs.examples.two_cycle_ends.Goals as goal
use Rattle.ve_examples.proofs.Endings.{two_cycle_finished, two_cycle_outgrown}

pub returns : goal.returns
returns c =
    let shown = c.two_cycle_is_answered.ensures in
    record { finished = two_cycle_finished shown.answer shown.sizes; outgrown = two_cycle_outgrown shown.answer shown.sizes }
