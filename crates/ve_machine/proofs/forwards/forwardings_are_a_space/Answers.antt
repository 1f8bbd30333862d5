use Rattle.std.proofs.Common.{nat_eq}
use Rattle.ve_theory.proofs.Sums.{weights_from_Alike, Decides-nat_eq}
use Rattle.ve_machine.proofs.forwards.forwardings_are_a_space.Goals as goal
use Rattle.ve_machine.proofs.Forwardings.{IsForwarding-alike, IsForwarding-nothing, IsForwarding-append, IsForwarding-scaled, IsForwarding-chained}

pub returns : goal.returns
returns c = λ p forwards positive. record {
  alike = λ u v same. IsForwarding-alike p forwards (weights_from_Alike nat_eq Decides-nat_eq p u v same);
  empty = IsForwarding-nothing p forwards;
  combined = λ c d u v one other. IsForwarding-append p forwards (IsForwarding-scaled p forwards c one) (IsForwarding-scaled p forwards d other);
  chained = λ u v one other. IsForwarding-chained p forwards u v positive one other;
}
