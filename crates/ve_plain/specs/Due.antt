-- Which relators are due.
use Rattle.std.specs.Prelude.{ℕ, ◌+◌, Bool, List, filter, length, nat_eq}
use Rattle.std.specs.List.{range_with_len}
use Rattle.ve_theory.specs.Presentations.{Presentation, relator, relator_reach, relators}

-- whether an id of the reach and the relator meet at the level
abbrev pub is_due : Presentation → (level reach number : ℕ) → Bool
is_due P level reach number = nat_eq (reach + relator_reach P (relator P number)) level

-- the numbers of the relators that do, in order
abbrev pub due_numbers : Presentation → (level reach : ℕ) → List ℕ
due_numbers P level reach = filter (is_due P level reach) (range_with_len 0 (length (relators P)))
