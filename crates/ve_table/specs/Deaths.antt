-- Which ids are dead, and what stands for them.
use Rattle.std.specs.Prelude.{◌≡◌, ℕ, zero, suc, ◌+◌, ◌≤◌, Bool, List, [], Option, None, Some, Vec, All, length, map, nat_eq, not, slice_index_or, vec_capacity}
use Rattle.std.specs.Global.{Global}
use Rattle.ve_theory.specs.Answers.{Row}
use Rattle.ve_table.specs.declared.entry.Entry.{Entry}

abbrev pub is_live_entry : Entry → Bool
is_live_entry e = nat_eq e.death 0

abbrev pub is_dead_entry : Entry → Bool
is_dead_entry e = not (is_live_entry e)

-- what stands for an id with the death: none where that is 0, else the vector at the place, counted from 1
abbrev pub forward_of : List Row → ℕ → Option Row
forward_of forwards zero = None
forward_of forwards (suc place) = Some (slice_index_or forwards place [])

-- so for each entry
abbrev pub forwards_of : List Row → List Entry → List (Option Row)
forwards_of forwards entries = map (λ (e : Entry). forward_of forwards e.death) entries

-- The list has a place for each death, and one vector for each id that is not live. It has room for one of each id.
pub record KeepsForwards (entries : List Entry) (live : ℕ) (forwards : Vec Row Global) : Type 0 where
  pub deaths : All (λ (e : Entry). e.death ≤ length forwards.items) entries
  pub count : length forwards.items + live ≡ length entries
  pub room : length entries ≤ vec_capacity forwards
