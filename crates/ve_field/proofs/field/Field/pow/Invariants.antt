use Rattle.std.proofs.Common.{◌≡◌, ◌*◌, ◌%◌, ◌^◌, ◌<◌}
use Rattle.ve_field.proofs.field.Field.pow.Given as goal

abbrev pub invariant-loop-left : goal.invariant-loop-left
invariant-loop-left l =
    (l.power < l.self) × (l.base < l.self) × ((l.power * l.base ^ l.left) % l.self ≡ l.a ^ l.exponent % l.self)

abbrev pub decreases-loop-left : goal.decreases-loop-left
decreases-loop-left l = l.left
