-- New numbers for the live ids, in order from 0.
use Rattle.std.specs.Prelude.{◌≡◌, ℕ, ◌<◌, List, All, length, map, take, count_by, slice_index, slice_index_or}
use Rattle.std.specs.List.{range_with_len}
use Rattle.ve_theory.specs.Answers.{Row}
use Rattle.ve_vec.specs.Vectors.{IsVector, numbered}
use Rattle.ve_table.specs.declared.origin.Origin.{Origin}
use Rattle.ve_table.specs.declared.origin.Origin.TheVariants.{Root, Child}
use Rattle.ve_table.specs.declared.entry.Entry.{Entry}
use Rattle.ve_table.specs.Deaths.{is_live_entry}

-- for each id how many live ones are below it
abbrev pub new_numbers : List Entry → List ℕ
new_numbers entries = map (λ b. count_by is_live_entry (take b entries)) (range_with_len 0 (length entries))

-- the vector has numbered ids alone, whose numbers have their order
pub record CanNumber (numbers : List ℕ) (v : Row) : Type 0 where
  pub ids : All (λ t. t.0 < length numbers) v
  pub order : IsVector (numbered numbers v)

abbrev pub HasParentBelow : ℕ → Origin → Type 0
HasParentBelow n (Root i) = Unit {0}
HasParentBelow n (Child parent letter) = parent < n

abbrev pub numbered_origin : List ℕ → Origin → Origin
numbered_origin numbers (Root i) = Root i
numbered_origin numbers (Child parent letter) = Child (slice_index numbers parent) letter

-- the entry's parent has a number
abbrev pub CanNumberEntry : List ℕ → Entry → Type 0
CanNumberEntry numbers e = HasParentBelow (length numbers) e.origin

-- an entry as it was, with the new numbers
pub record IsNumbered (numbers : List ℕ) (old new : Entry) : Type 0 where
  pub origin : new.origin ≡ numbered_origin numbers old.origin
  pub own_reach : new.reach ≡ old.reach
  pub own_length : new.length ≡ old.length
  pub death : new.death ≡ old.death

-- so each of a list
pub record AreNumbered (numbers : List ℕ) (old new : List Entry) : Type 0 where
  pub count : length new ≡ length old
  pub each : (b : ℕ) (d : Entry) → b < length old → IsNumbered numbers (slice_index_or old b d) (slice_index_or new b d)
