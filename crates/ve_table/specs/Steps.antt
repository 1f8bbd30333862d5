-- Reaches of ids, and the letters that take them further.
use Rattle.std.specs.Prelude.{ℕ, ◌+◌, ◌≤◌, List, AllPairs, cond, count_by, nat_eq}
use Rattle.ve_table.specs.declared.entry.Entry.{Entry}
use Rattle.ve_table.specs.Deaths.{is_live_entry}

-- no later id has a smaller reach
abbrev pub HasRisingReaches : List Entry → Type 0
HasRisingReaches entries = AllPairs (λ (a b : Entry). a.reach ≤ b.reach) entries

-- how many letters take a live id to the reach
abbrev pub live_steps : List ℕ → ℕ → Entry → ℕ
live_steps weights reach e = cond (is_live_entry e) (count_by (λ step. nat_eq (e.reach + step) reach) weights) 0
