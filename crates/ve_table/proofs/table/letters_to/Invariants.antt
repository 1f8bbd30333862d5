use Rattle.std.proofs.Common.{◌≡◌, ◌+◌, take}
use Rattle.std.specs.Prelude.{count_by, nat_eq}
use Rattle.ve_table.proofs.table.letters_to.Given as goal

abbrev pub invariant-loop-step : goal.invariant-loop-step
invariant-loop-step l = l.count ≡ count_by (λ step. nat_eq (l.from + step) l.reach) (take l.step-index l.weights)
