-- Action tables, as contracts see them.
use Rattle.std.specs.Prelude.{◌≡◌, ℕ, ◌+◌, ◌<◌, ◌≤◌, List, [], ◌∷◌, length, Option, Some, None, slice_get, slice_index_or, take, refl}
use Rattle.std.specs.Coded.{Coded, code_by, coded×, coded_ℕ, coded_list, coded_option}
use Rattle.ve_theory.specs.Words.{Word, generator, word_code}
use Rattle.ve_theory.specs.Elements.{Element}
use Rattle.ve_theory.specs.Presentations.{Presentation, letter_count, step, reach}
use Rattle.ve_theory.specs.Answers.{Action, Row, combination_of}
use Rattle.ve_pres.specs.Drafts.{Draft, draft_code}

-- A table of words of reach at most the level, numbered by ids from 0, with what letters do to them. Vectors are rows on the
-- book of words.
pub record ActionTable : Type 0 where
  pub draft : Draft
  pub level : ℕ
  -- the word of each id, whether the id is live or dead
  pub words : List Word
  -- for each id, none where it is live, and the vector that stands for it where it is dead
  pub forwards : List (Option Row)
  -- for each id and each letter the vector of the product, where the table has it
  pub rows : List (List (Option Row))
  -- for each generator its vector
  pub images : List Row

abbrev pub presented : ActionTable → Presentation
presented T = T.draft.presentation

abbrev pub word_at : ActionTable → ℕ → Word
word_at T b = slice_index_or T.words b (generator 0)

abbrev pub reach_at : ActionTable → ℕ → ℕ
reach_at T b = reach (presented T) (word_at T b)

abbrev pub row_at : ActionTable → ℕ → ℕ → Option Row
row_at T b x = slice_index_or (slice_index_or T.rows b []) x None

-- there is such an id; it is live; it is dead
abbrev pub IsId : ActionTable → ℕ → Type 0
IsId T b = b < length T.words

abbrev pub IsLive : ActionTable → ℕ → Type 0
IsLive T b = slice_get T.forwards b ≡ Some None

abbrev pub IsDead : ActionTable → ℕ → Type 0
IsDead T b = (v : Row) × (slice_get T.forwards b ≡ Some (Some v))

-- the words as a basis, and the element that a vector stands for
abbrev pub on_words : List Word → Action
on_words words = record { basis = words; images = []; matrices = [] }

abbrev pub element_of : ActionTable → Row → Element
element_of T v = combination_of (on_words T.words) v

-- the id times the letter is of reach at most the level
abbrev pub IsDue : ActionTable → ℕ → ℕ → Type 0
IsDue T b x = (b < length T.words) × (x < letter_count (presented T)) × (reach_at T b + step (presented T) x ≤ T.level)

-- what the live ones of the ids have
unfoldable pub of_live : {X : Type 0} → List (Option Row) → List X → List X
of_live [] xs = []
of_live (f ∷ fs) [] = []
of_live (None ∷ fs) (x ∷ xs) = x ∷ of_live fs xs
of_live (Some v ∷ fs) (x ∷ xs) = of_live fs xs

-- the words of the live ids, in order
abbrev pub live_words : ActionTable → List Word
live_words T = of_live T.forwards T.words

-- how many live ids are below b
abbrev pub live_below : ActionTable → ℕ → ℕ
live_below T b = length (of_live (take b T.forwards) T.words)

-- a table is stored as the tuple of its fields
abbrev pub table_code : Coded ActionTable
table_code =
    code_by
    (Draft × (ℕ × (List Word × (List (Option Row) × (List (List (Option Row)) × List Row)))))
    (coded× draft_code (coded× coded_ℕ (coded× (coded_list word_code) (coded× (coded_list (coded_option row_code)) (coded× (coded_list (coded_list (coded_option row_code))) (coded_list row_code))))))
    (λ T. (T.draft, (T.level, (T.words, (T.forwards, (T.rows, T.images))))))
    (λ s. record { draft = s.0; level = s.1.0; words = s.1.1.0; forwards = s.1.1.1.0; rows = s.1.1.1.1.0; images = s.1.1.1.1.1 })
    (λ _. refl)
  where
    row_code : Coded Row
    row_code = coded_list (coded× coded_ℕ coded_ℕ)
