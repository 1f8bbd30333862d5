-- What a table keeps, and what contracts see of it.
use Rattle.std.specs.Prelude.{◌≡◌, ℕ, ◌+◌, ◌*◌, ◌<◌, ◌≤◌, ◌^◌, [], All, Some, length, map, slice_get, slice_index, slice_index_or}
use Rattle.ve_theory.specs.Words.{word_length}
use Rattle.ve_theory.specs.Presentations.{reach, letter_count}
use Rattle.ve_table.specs.Tables.{ActionTable, presented, word_at, live_words}
use Rattle.ve_table.specs.Books.{words_of, IsOriginOf}
use Rattle.ve_table.specs.Rows.{listed}
use Rattle.ve_table.specs.Sound.{IsSound}
use Rattle.ve_table.specs.Reaches.{AreReaches}
use Rattle.ve_table.specs.Deaths.{forwards_of, KeepsForwards}
use Rattle.ve_table.specs.declared.entry.Entry.{Entry}
use Rattle.ve_table.specs.declared.table.Table.TheInside.{Inside}

abbrev pub table_of : Inside → ActionTable
table_of t = record {
  draft = t.presentation;
  level = t.level;
  words = words_of (map (λ (e : Entry). e.origin) t.entries.items);
  forwards = forwards_of t.forwards.items t.entries.items;
  rows = listed (letter_count t.presentation.presentation) (length t.entries.items) t.bounds.items t.rows.items;
  images = t.images.items;
}

-- an id's entry: origin and numbers are those of its word
pub record IsEntryOf (T : ActionTable) (b : ℕ) (e : Entry) : Type 0 where
  pub origin : IsOriginOf T.words b e.origin (word_at T b)
  pub own_reach : e.reach ≡ reach (presented T) (word_at T b)
  pub own_length : e.length ≡ word_length (word_at T b)

-- the table is sound, and what is kept beside it is its own
pub record IsKept (t : Inside) : Type 0 where
  pub sound : IsSound (table_of t)
  pub entries : (b : ℕ) (e : Entry) → slice_get t.entries.items b ≡ Some e → IsEntryOf (table_of t) b e
  pub count : length t.entries.items < 2 ^ 32
  pub few_places : length t.rows.items ≤ length t.entries.items * letter_count t.presentation.presentation
  -- an id below its letter's bound has a place, and the other places are zero
  pub places : (b x : ℕ) → x < letter_count t.presentation.presentation → b < slice_index t.bounds.items x → b * letter_count t.presentation.presentation + x < length t.rows.items
  pub rest : (b x : ℕ) → x < letter_count t.presentation.presentation → slice_index t.bounds.items x ≤ b → slice_index_or t.rows.items (b * letter_count t.presentation.presentation + x) [] ≡ []
  pub one_bound_each : length t.bounds.items ≡ letter_count t.presentation.presentation
  pub bounds : All (λ bound. bound ≤ length t.entries.items) t.bounds.items
  pub live_count : t.live ≡ length (live_words (table_of t))
  pub own_forwards : KeepsForwards t.entries.items t.live t.forwards
  pub own_reaches : AreReaches t.presentation.presentation t.reaches
