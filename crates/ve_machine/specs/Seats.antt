-- The machine that many seats share at a level: a table at work, jobs and relations, and a desk for each seat.
use Rattle.std.specs.Prelude.{◌≡◌, ℕ, List, [], ◌∷◌, Option, Some, set, slice_get, replicate}
use Rattle.ve_theory.specs.Answers.{Row}
use Rattle.ve_table.specs.Tables.{ActionTable}
use Rattle.ve_machine.specs.Forwards.{Forwards}

-- a relator at an id, a submodule relation, the image of a dead id at a letter
pub data Job : Type 0 where
  relator_job : (b number : ℕ) → Job
  submodule_job : (number : ℕ) → Job
  image_job : (b x : ℕ) → Job

-- what a seat has taken and not yet brought back
pub data Desk : Type 0 where
  empty_desk : Desk
  with_job : Job → Desk
  with_relation : Row → Desk

-- an id that died, its forward, and the seat that let it die
pub record Death : Type 0 where
  pub seat : ℕ
  pub id : ℕ
  pub forward : Row

-- the forwards after deaths, one after another
unfoldable pub forwards_after : Forwards → List Death → Forwards
forwards_after forwards [] = forwards
forwards_after forwards (d ∷ journal) = forwards_after (set forwards d.id (Some d.forward)) journal

pub record State : Type 0 where
  -- the table at the beginning of the level, which stays
  pub opening : ActionTable
  -- its forwards and rows, as they are now
  pub forwards : Forwards
  pub rows : List (List (Option Row))
  -- the jobs that are done, in any order
  pub done : List Job
  -- the relations that wait
  pub queue : List Row
  -- for each seat, numbered from 0, its desk
  pub desks : List Desk
  -- the deaths, in their order
  pub journal : List Death

-- the table as it is now
abbrev pub present : State → ActionTable
present S = record S.opening { forwards = S.forwards; rows = S.rows }

-- there is such a seat, and it has this desk
abbrev pub HasDesk : State → ℕ → Desk → Type 0
HasDesk S seat desk = slice_get S.desks seat ≡ Some desk

abbrev pub with_desk : State → ℕ → Desk → State
with_desk S seat desk = record S { desks = set S.desks seat desk }

-- the machine at the beginning: nothing is done, and all desks are empty
abbrev pub opened_state : ActionTable → (seats : ℕ) → State
opened_state O seats = record {
  opening = O;
  forwards = O.forwards;
  rows = O.rows;
  done = [];
  queue = [];
  desks = replicate seats empty_desk;
  journal = [];
}
