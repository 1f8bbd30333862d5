-- What is right about a hand: what it says of the job or the relation on the desk.
use Rattle.std.specs.Prelude.{◌≡◌, ℕ, ◌+◌, ◌<◌, ◌≤◌, ◌++◌, List, [], ◌∷◌, All, map, length, slice_index_or}
use Rattle.ve_theory.specs.Combinations.{difference, unit}
use Rattle.ve_theory.specs.Words.{Word, generator, times_all}
use Rattle.ve_theory.specs.Elements.{Element}
use Rattle.ve_theory.specs.Presentations.{HasLetters, reach, step}
use Rattle.ve_theory.specs.Answers.{Row}
use Rattle.ve_vec.specs.Tracing.{row_or_zero}
use Rattle.ve_table.specs.Tables.{ActionTable, element_of, presented, row_at, word_at}
use Rattle.ve_machine.specs.Forwards.{Forwards, IsForwarding}
use Rattle.ve_machine.specs.Known.{Known}
use Rattle.ve_machine.specs.Jobs.{HasForward}
use Rattle.ve_machine.specs.SharedJobs.{IsVectorOn}
use Rattle.ve_machine.specs.Hands.{Beginning, Found, Hand, Part, Reading, beginning_hand, empty_hand, forward_found, from_forward, from_id, from_image, none_found, read_forward, read_ids, read_image, row_found, summed_hand, tracing_hand, unread}

-- readings

-- What was read for an id: a row at the next letter that is the opening's but for forwards, and reaches no further than the
-- product, or the id's forward.
abbrev pub IsFoundFor : ActionTable → Forwards → List ℕ → ℕ → Found → Type 0
IsFoundFor O forwards left b none_found = Unit {0}
IsFoundFor O forwards left b (forward_found forward) = HasForward forwards b forward
IsFoundFor O forwards [] b (row_found row) = ⊥
IsFoundFor O forwards (x ∷ left) b (row_found row) =
    IsForwarding (presented O).prime forwards (difference (presented O).prime (row_or_zero (row_at O) x b) row)
    × All (λ t. (t.0 < length O.words) × (reach (presented O) (word_at O t.0) ≤ reach (presented O) (word_at O b) + step (presented O) x)) row

abbrev pub AreFoundFor : ActionTable → Forwards → List ℕ → Row → List Found → Type 0
AreFoundFor O forwards left [] [] = Unit {0}
AreFoundFor O forwards left [] (found ∷ founds) = ⊥
AreFoundFor O forwards left (t ∷ vector) [] = ⊥
AreFoundFor O forwards left (t ∷ vector) (found ∷ founds) = IsFoundFor O forwards left t.0 found × AreFoundFor O forwards left vector founds

abbrev pub IsReadFor : ActionTable → Forwards → List ℕ → Row → Reading → Type 0
IsReadFor O forwards left vector unread = Unit {0}
IsReadFor O forwards left vector (read_image image) = ⊥
IsReadFor O forwards left vector (read_forward row forward) = ⊥
IsReadFor O forwards left vector (read_ids founds) = AreFoundFor O forwards left vector founds

-- relators and submodule relations

abbrev pub beginning_word : ActionTable → Beginning → Word
beginning_word O (from_id b) = word_at O b
beginning_word O (from_image i) = generator i
beginning_word O (from_forward b x) = word_at O b

abbrev pub part_word : ActionTable → Part → Word
part_word O part = times_all (beginning_word O part.beginning) part.letters

-- the parts, as they are to be summed
abbrev pub parts_value : ActionTable → List Part → Element
parts_value O parts = map (λ (part : Part). (part_word O part, part.coefficient)) parts

-- an id, or a generator
abbrev pub HasBeginning : ActionTable → Beginning → Type 0
HasBeginning O (from_id b) = b < length O.words
HasBeginning O (from_image i) = i < (presented O).generators
HasBeginning O (from_forward b x) = ⊥

-- the part can be traced within the level
pub record IsPart (O : ActionTable) (part : Part) : Type 0 where
  pub there : HasBeginning O part.beginning
  pub letters : HasLetters (presented O) part.letters
  pub within : reach (presented O) (part_word O part) ≤ O.level

-- what was read for a generator is its image
abbrev pub IsReadBefore : ActionTable → Beginning → Reading → Type 0
IsReadBefore O beginning unread = Unit {0}
IsReadBefore O (from_id b) (read_image image) = ⊥
IsReadBefore O (from_image i) (read_image image) = image ≡ slice_index_or O.images i []
IsReadBefore O (from_forward b x) (read_image image) = ⊥
IsReadBefore O beginning (read_forward row forward) = ⊥
IsReadBefore O beginning (read_ids founds) = ⊥

-- The element is known to be the sum so far and what is still to be summed.
pub record IsSumSoFar (O : ActionTable) (forwards : Forwards) (e : Element) (sum : Row) (rest : Element) (parts : List Part) : Type 0 where
  pub ids : All (λ t. t.0 < length O.words) sum
  pub known : Known O forwards (difference (presented O).prime e (element_of O sum ++ (rest ++ parts_value O parts)))
  pub can_trace : All (IsPart O) parts

pub record IsBeginning (O : ActionTable) (forwards : Forwards) (e : Element) (sum : Row) (part : Part) (parts : List Part) (reading : Reading) : Type 0 where
  pub so_far : IsSumSoFar O forwards e sum ((part_word O part, part.coefficient) ∷ []) parts
  pub here : IsPart O part
  pub read : IsReadBefore O part.beginning reading

-- The vector is that of a word, but for what is known, and reaches no further; the letters that are left complete the part.
pub record IsTracing (O : ActionTable) (forwards : Forwards) (e : Element) (sum : Row) (coefficient : ℕ) (parts : List Part) (vector : Row) (left : List ℕ) (reading : Reading) : Type 0 where
  pub word : Word
  pub traced : Known O forwards (difference (presented O).prime (unit word) (element_of O vector))
  pub ids : All (λ t. (t.0 < length O.words) × (reach (presented O) (word_at O t.0) ≤ reach (presented O) word)) vector
  pub letters : HasLetters (presented O) left
  pub within : reach (presented O) (times_all word left) ≤ O.level
  pub so_far : IsSumSoFar O forwards e sum ((times_all word left, coefficient) ∷ []) parts
  pub read : IsReadFor O forwards left vector reading

pub record IsSummed (O : ActionTable) (forwards : Forwards) (e : Element) (vector : Row) (reading : Reading) : Type 0 where
  pub vector_on : IsVectorOn O vector
  pub known : Known O forwards (difference (presented O).prime e (element_of O vector))
  pub read : IsReadFor O forwards [] vector reading

abbrev pub IsHandOfElement : ActionTable → Forwards → Element → Hand → Type 0
IsHandOfElement O forwards e empty_hand = ⊥
IsHandOfElement O forwards e (beginning_hand sum part parts reading) = IsBeginning O forwards e sum part parts reading
IsHandOfElement O forwards e (tracing_hand sum coefficient parts vector left reading) = IsTracing O forwards e sum coefficient parts vector left reading
IsHandOfElement O forwards e (summed_hand vector reading) = IsSummed O forwards e vector reading
