use Rattle.ve_machine.proofs.forwards.deaths_keep.Goals as goal
use Rattle.ve_machine.proofs.Forwardings.{stays_forwarding, drawn_forwarding}
use Rattle.ve_machine.proofs.KnownElements.{stays_known}

pub returns : goal.returns
returns c = record {
  forwardings = λ p forwards b f v positive live forwarding. stays_forwarding p forwards b f positive live v forwarding;
  known = stays_known;
  vector = λ p forwards b f v positive live drawn. drawn_forwarding p forwards b f positive live v drawn;
}
