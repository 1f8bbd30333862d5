use Rattle.std.proofs.Common.{◌≡◌}
use Rattle.std.specs.Prelude.{filter, nat_eq, slice_index}
use Rattle.std.specs.List.{range_with_len}
use Rattle.ve_table.proofs.birth.letters_of.Given as goal

abbrev pub invariant-loop-letter : goal.invariant-loop-letter
invariant-loop-letter l = l.letters.items ≡ filter (λ x. nat_eq (slice_index l.weights x) l.weight) (range_with_len 0 l.letter)
