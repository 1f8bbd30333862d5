-- Rows in one list, by id and then letter.
use Rattle.std.specs.Prelude.{◌≡◌, ℕ, ◌+◌, ◌*◌, ◌<◌, ◌≤◌, ◌↔◌, List, [], ◌∷◌, All, Option, None, Some, cond, nat_lt, length, map, set, count_by, slice_get, slice_index, slice_index_or, take}
use Rattle.std.specs.List.{range_with_len}
use Rattle.ve_theory.specs.Combinations.{unit}
use Rattle.ve_theory.specs.Answers.{Row}
use Rattle.ve_table.specs.declared.birth.Birth.{Birth}
use Rattle.ve_table.specs.declared.entry.Entry.{Entry}
use Rattle.ve_table.specs.Deaths.{is_live_entry}

-- what an id has at a letter: the vector at its place where the id is below the letter's bound, and no row elsewhere
abbrev pub row_placed : ℕ → List ℕ → List Row → ℕ → ℕ → Option Row
row_placed letters bounds rows b x = cond (nat_lt b (slice_index bounds x)) (Some (slice_index_or rows (b * letters + x) [])) None

-- the rows of each id
abbrev pub listed : (letters ids : ℕ) → List ℕ → List Row → List (List (Option Row))
listed letters ids bounds rows = map (λ b. map (row_placed letters bounds rows b) (range_with_len 0 letters)) (range_with_len 0 ids)

-- For each letter how many ids have a product with it within the level. They are the first ones.
pub record AreBounds (weights : List ℕ) (level : ℕ) (entries : List Entry) (bounds : List ℕ) : Type 0 where
  pub count : length bounds ≡ length weights
  pub within : All (λ bound. bound ≤ length entries) bounds
  pub due : (b x : ℕ) (e : Entry) → slice_get entries b ≡ Some e → x < length weights → (b < slice_index bounds x) ↔ (e.reach + slice_index weights x ≤ level)

-- the units of new ids in the rows of their births, one after the other
unfoldable pub with_births_from : (letters first : ℕ) → List Row → List Birth → List Row
with_births_from letters first rows [] = rows
with_births_from letters first rows (b ∷ bs) = with_births_from letters (first + 1) (set rows (b.parent * letters + b.letter) (unit first)) bs

-- the rows of live ids, at their new numbers
pub record AreLiveRows (letters : ℕ) (entries : List Entry) (old new : List Row) : Type 0 where
  pub rows : (b x : ℕ) (e : Entry) → slice_get entries b ≡ Some e → e.death ≡ 0 → x < letters → slice_index_or new (count_by is_live_entry (take b entries) * letters + x) [] ≡ slice_index_or old (b * letters + x) []
  pub places : (b x : ℕ) (e : Entry) → slice_get entries b ≡ Some e → e.death ≡ 0 → x < letters → b * letters + x < length old → count_by is_live_entry (take b entries) * letters + x < length new
  pub within : length new ≤ count_by is_live_entry entries * letters

-- the rows of one id at the places of a lower one
pub record AreMoved (letters from to : ℕ) (old new : List Row) : Type 0 where
  pub count : length new ≡ length old
  pub moved : (x : ℕ) → x < letters → slice_index_or new (to * letters + x) [] ≡ slice_index_or old (from * letters + x) []
  pub below : (k : ℕ) → k < to * letters → slice_index_or new k [] ≡ slice_index_or old k []
  pub above : (k : ℕ) → (from + 1) * letters ≤ k → slice_index_or new k [] ≡ slice_index_or old k []
