-- What holds of the machine that seats share. Each law is the contract of the function of its name.
use Rattle.std.specs.Prelude.{◌≡◌, ◌≢◌, ◌⊎◌, ℕ, ◌++◌, All, Contains, List, slice_get}
use Rattle.ve_theory.specs.Elements.{Element}
use Rattle.ve_theory.specs.Answers.{Row}
use Rattle.ve_theory.specs.Laws.{AreSameLevels}
use Rattle.ve_table.specs.Tables.{ActionTable, live_words, presented}
use Rattle.ve_table.specs.Sound.{IsSound}
use Rattle.ve_machine.specs.Forwards.{Forwards, IsForwarding}
use Rattle.ve_machine.specs.Known.{Known}
use Rattle.ve_machine.specs.Jobs.{HasForward}
use Rattle.ve_machine.specs.Finished.{IsFinishedTable, IsOpening, IsPacked}
use Rattle.ve_machine.specs.Seats.{Death, Job, State, forwards_after, opened_state, present}
use Rattle.ve_machine.specs.SharedSteps.{Leads, Step}
use Rattle.ve_machine.specs.Machines.{Event, Goes, IsBy, IsRightMachine, Machine, Move, opened_machine}
use Rattle.ve_machine.specs.Covered.{IsCovered, IsLegalHistory, IsQuiescent, IsSoundState}

-- at the beginning

abbrev pub StatesOpen : Type 0
StatesOpen = (O : ActionTable) (seats : ℕ) → IsSound O → IsPacked O
    → IsSoundState (opened_state O seats) × IsCovered (opened_state O seats) × IsLegalHistory (opened_state O seats)

-- whatever seats do

abbrev pub StatesStayRight : Type 0
StatesStayRight = (O : ActionTable) (seats : ℕ) (S : State) → IsSound O → IsPacked O → Leads (opened_state O seats) S
    → IsSoundState S × IsCovered S × IsLegalHistory S

-- steps

abbrev pub StepsKeepSound : Type 0
StepsKeepSound = (S T : State) (seat : ℕ) → IsSoundState S → Step S seat T → IsSoundState T

abbrev pub StepsKeepCovered : Type 0
StepsKeepCovered = (S T : State) (seat : ℕ) → IsSoundState S → Step S seat T → IsCovered S → IsCovered T

abbrev pub StepsKeepHistory : Type 0
StepsKeepHistory = (S T : State) (seat : ℕ) → IsSoundState S → Step S seat T → IsLegalHistory S → IsLegalHistory T

-- Dead ids keep their forwards, and what is a forwarding, or known, stays so.
pub record KeepsKnown (O : ActionTable) (old new : Forwards) : Type 0 where
  pub dead : (b : ℕ) (f : Row) → HasForward old b f → HasForward new b f
  pub forwardings : (v : Row) → IsForwarding (presented O).prime old v → IsForwarding (presented O).prime new v
  pub known : (v : Element) → Known O old v → Known O new v

abbrev pub StepsKeepKnown : Type 0
StepsKeepKnown = (S T : State) (seat : ℕ) → IsSoundState S → Step S seat T → KeepsKnown S.opening S.forwards T.forwards

-- What was so after a part of the journal is so after all of it: readings outlast other seats' steps.
abbrev pub JournalsKeepKnown : Type 0
JournalsKeepKnown = (S : State) (seen more : List Death) → IsPacked S.opening → IsSoundState S → IsLegalHistory S → S.journal ≡ seen ++ more
    → KeepsKnown S.opening (forwards_after S.opening.forwards seen) S.forwards

-- no step makes a done job undone
abbrev pub StepsKeepDone : Type 0
StepsKeepDone = (S T : State) (seat : ℕ) → Step S seat T → (job : Job) → Contains S.done job → Contains T.done job

-- The opening stays, the journal goes on with deaths by this seat alone, and other seats keep their desks.
pub record GoesOn (S : State) (seat : ℕ) (T : State) : Type 0 where
  pub opening : T.opening ≡ S.opening
  pub added : List Death
  pub longer : T.journal ≡ S.journal ++ added
  pub by_seat : All (λ d. d.seat ≡ seat) added
  pub desks : (other : ℕ) → other ≢ seat → slice_get T.desks other ≡ slice_get S.desks other

abbrev pub StepsGoOn : Type 0
StepsGoOn = (S T : State) (seat : ℕ) → Step S seat T → GoesOn S seat T

-- with hands

-- A move is a step of the shared machine, by whom the event is, or leaves it as it is. It keeps the machine right.
pub record GoesRight (M : Machine) (event : Event) (N : Machine) : Type 0 where
  pub shared : ((seat : ℕ) → IsBy event seat → Step M.shared seat N.shared) ⊎ (N.shared ≡ M.shared)
  pub machine : IsRightMachine N

abbrev pub MovesGoRight : Type 0
MovesGoRight = (M N : Machine) (event : Event) → IsRightMachine M → Move M event N → GoesRight M event N

-- after every list of events
abbrev pub MachinesStayRight : Type 0
MachinesStayRight = (O : ActionTable) (seats : ℕ) (events : List Event) (M : Machine) → IsSound O → IsPacked O → Goes (opened_machine O seats) events M → IsRightMachine M

-- at the end

abbrev pub QuiescentTablesAreFinished : Type 0
QuiescentTablesAreFinished = (S : State) → IsOpening S.opening → IsSoundState S → IsCovered S → IsQuiescent S → IsFinishedTable (present S)

-- finished tables of one level have the same live words and, on them, the same rows
pub record IsOneLevel (S T : ActionTable) (s : IsFinishedTable S) (t : IsFinishedTable T) : Type 0 where
  pub words : live_words S ≡ live_words T
  pub actions : AreSameLevels (presented S) S.level s.action t.action

abbrev pub FinishedTablesAreUnique : Type 0
FinishedTablesAreUnique = (S T : ActionTable) (s : IsFinishedTable S) (t : IsFinishedTable T) → S.draft ≡ T.draft → S.level ≡ T.level → IsOneLevel S T s t
