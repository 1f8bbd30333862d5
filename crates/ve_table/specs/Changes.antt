-- How calls change a table.
use Rattle.std.specs.Prelude.{◌≡◌, ℕ, ◌+◌, ◌<◌, ◌≤◌, List, [], ◌++◌, Some, None, length, map, set, slice_get, slice_index_or, sum_by}
use Rattle.std.specs.List.{range_with_len}
use Rattle.std.specs.Option.{option_map}
use Rattle.ve_theory.specs.Combinations.{unit}
use Rattle.ve_theory.specs.Words.{Word, generator, times}
use Rattle.ve_theory.specs.Presentations.{letter_count, reach}
use Rattle.ve_theory.specs.Levels.{Lists, steps_to}
use Rattle.ve_theory.specs.Answers.{Row}
use Rattle.ve_pres.specs.Drafts.{Draft}
use Rattle.ve_table.specs.Tables.{ActionTable, presented, word_at, row_at, IsLive, of_live, live_words, live_below}

-- level 0: each generator is an id, which is its image; there are no rows
abbrev pub opened : Draft → ActionTable
opened draft =
    let ids : List ℕ = range_with_len 0 draft.presentation.generators in
    record {
      draft = draft;
      level = 0;
      words = map generator ids;
      forwards = map (λ _. None) ids;
      rows = map (λ _. map (λ _. None) draft.presentation.names) ids;
      images = map unit ids;
    }

abbrev pub with_forward : ActionTable → ℕ → Row → ActionTable
with_forward T b v = record T { forwards = set T.forwards b (Some v) }

abbrev pub with_row : ActionTable → ℕ → ℕ → Row → ActionTable
with_row T b x v = record T { rows = set T.rows b (set (slice_index_or T.rows b []) x (Some v)) }

abbrev pub with_image : ActionTable → ℕ → Row → ActionTable
with_image T i v = record T { images = set T.images i v }

-- a live word times a letter, of reach one above the level
pub record IsBorn (T : ActionTable) (w : Word) : Type 0 where
  pub parent : ℕ
  pub letter : ℕ
  pub live : IsLive T parent
  pub is_letter : letter < letter_count (presented T)
  pub product : w ≡ times (word_at T parent) letter
  pub next : reach (presented T) w ≡ T.level + 1

-- The table has one level more: new ids are the words that are born there, in the order of words, and all live. Each is the row
-- of its product, and what stood before stands.
pub record Grows (old new : ActionTable) : Type 0 where
  pub born : List Word
  pub are_born : Lists (presented old) (IsBorn old) born
  pub draft : new.draft ≡ old.draft
  pub level : new.level ≡ old.level + 1
  pub words : new.words ≡ old.words ++ born
  pub forwards : new.forwards ≡ old.forwards ++ map (λ _. None) born
  pub images : new.images ≡ old.images
  pub kept : (b x : ℕ) (v : Row) → row_at old b x ≡ Some v → row_at new b x ≡ Some v
  pub rows : (b x c : ℕ) → b < length old.words → length old.words ≤ c → slice_get new.words c ≡ Some (times (word_at old b) x) → row_at new b x ≡ Some (unit c)

-- how many ids the next level has
abbrev pub next_count : ActionTable → ℕ
next_count T = length (live_words T) + sum_by (steps_to (presented T) (T.level + 1)) (live_words T)

-- the live ids alone, numbered anew in order
abbrev pub renumbered : ActionTable → Row → Row
renumbered T v = map (λ t. (live_below T t.0, t.1)) v

abbrev pub without_dead : ActionTable → ActionTable
without_dead T = record {
  draft = T.draft;
  level = T.level;
  words = live_words T;
  forwards = map (λ _. None) (live_words T);
  rows = map (map (option_map (renumbered T))) (of_live T.forwards T.rows);
  images = map (renumbered T) T.images;
}
