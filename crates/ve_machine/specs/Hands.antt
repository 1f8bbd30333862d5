-- What a seat holds of the job or relation on its desk: how far the job is traced, and what was last read for it.
use Rattle.std.specs.Prelude.{ℕ, List, [], ◌∷◌, map}
use Rattle.ve_theory.specs.Combinations.{unit}
use Rattle.ve_theory.specs.Words.{letters, start}
use Rattle.ve_theory.specs.Presentations.{relator, submodule_relation}
use Rattle.ve_theory.specs.Answers.{Row}
use Rattle.ve_table.specs.Tables.{ActionTable, presented}
use Rattle.ve_machine.specs.Seats.{Job, image_job, relator_job, submodule_job}

-- what a term begins with: an id, the image of a generator, or the forward of a dead id and its row at a letter
pub data Beginning : Type 0 where
  from_id : (b : ℕ) → Beginning
  from_image : (i : ℕ) → Beginning
  from_forward : (b x : ℕ) → Beginning

-- a term of a job: the letters that follow its beginning, and its coefficient
pub record Part : Type 0 where
  pub beginning : Beginning
  pub letters : List ℕ
  pub coefficient : ℕ

-- a relator's terms at an id, those of a submodule relation, and the forward of a dead id
abbrev pub parts_of : ActionTable → Job → List Part
parts_of O (relator_job b number) = map (λ t. record { beginning = from_id b; letters = t.0; coefficient = t.1 }) (relator (presented O) number)
parts_of O (submodule_job number) =
    map (λ t. record { beginning = from_image (start t.0); letters = letters t.0; coefficient = t.1 }) (submodule_relation (presented O) number)
parts_of O (image_job b x) = record { beginning = from_forward b x; letters = x ∷ []; coefficient = 1 } ∷ []

-- what was read for an id: its row at the next letter, its forward, or nothing
pub data Found : Type 0 where
  row_found : Row → Found
  forward_found : Row → Found
  none_found : Found

-- the last read: none, an image, a row and a forward, or what was read for each id of the vector
pub data Reading : Type 0 where
  unread : Reading
  read_image : Row → Reading
  read_forward : (row forward : Row) → Reading
  read_ids : List Found → Reading

-- A part is to begin; a part is traced, with its vector so far and the letters that are left; or all is summed. The sum so far is of
-- the parts before it.
pub data Hand : Type 0 where
  empty_hand : Hand
  beginning_hand : (sum : Row) (part : Part) (parts : List Part) → Reading → Hand
  tracing_hand : (sum : Row) (coefficient : ℕ) (parts : List Part) (vector : Row) (left : List ℕ) → Reading → Hand
  summed_hand : (vector : Row) → Reading → Hand

-- the hand where a part comes next; an id begins by itself
abbrev pub begun_with : Row → Part → List Part → Beginning → Hand
begun_with sum part parts (from_id b) = tracing_hand sum part.coefficient parts (unit b) part.letters unread
begun_with sum part parts (from_image i) = beginning_hand sum part parts unread
begun_with sum part parts (from_forward b x) = beginning_hand sum part parts unread

abbrev pub next_hand : Row → List Part → Hand
next_hand sum [] = summed_hand sum unread
next_hand sum (part ∷ parts) = begun_with sum part parts part.beginning
