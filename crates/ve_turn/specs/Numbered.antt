-- The numbers that the program keeps are those that a pass knows.
use Rattle.std.specs.Prelude.{◌≡◌, ◌<◌}
use Rattle.ve_turn.specs.declared.numbers.Numbers.{Numbers}
use Rattle.ve_turn.specs.declared.view.Knowledge.{Knowledge}

abbrev pub IsNumbered : {T O E D : Type 0} → Numbers → Knowledge T O E D → Type 0
IsNumbered n k = (n.seats ≡ k.seats) × (n.seat ≡ k.seat) × (n.left ≡ k.left) × (k.left < k.seats)
