-- Entries of births.
use Rattle.std.specs.Prelude.{ℕ, ◌+◌, ◌<◌, ◌^◌, List, length, map, slice_index_or}
use Rattle.ve_table.specs.declared.birth.Birth.{Birth}
use Rattle.ve_table.specs.declared.origin.Origin.TheVariants.{Child}
use Rattle.ve_table.specs.declared.entry.Entry.{Entry}

-- the birth's parent is there, and a word may be longer by a letter
pub record CanDefine (entries : List Entry) (b : Birth) : Type 0 where
  pub parent : b.parent < length entries
  pub longer : (d : Entry) → (slice_index_or entries b.parent d).length + 1 < 2 ^ 32

-- a birth's entry
abbrev pub entry_of_birth : (reach : ℕ) → List Entry → Birth → Entry
entry_of_birth reach entries b = record { origin = Child b.parent b.letter; reach = reach; length = parent_length + 1; death = 0 }
  where
    parent_length : ℕ
    parent_length = slice_index_or (map (λ (e : Entry). e.length) entries) b.parent 0
