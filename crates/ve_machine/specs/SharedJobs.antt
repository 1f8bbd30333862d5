-- Jobs that seats share: which of them wait, and which vectors come from them.
use Rattle.std.specs.Prelude.{◌≡◌, ◌<◌, Contains, length}
use Rattle.ve_theory.specs.Combinations.{difference}
use Rattle.ve_theory.specs.Presentations.{due, relator, relators}
use Rattle.ve_theory.specs.Answers.{Row, IsRow}
use Rattle.ve_table.specs.Tables.{ActionTable, element_of, presented, word_at}
use Rattle.ve_machine.specs.Forwards.{Forwards}
use Rattle.ve_machine.specs.Jobs.{IsImageJob, IsKnownBelow, IsLiveIn, IsSubmoduleJob, image_value, relator_value, submodule_value}
use Rattle.ve_machine.specs.Known.{Known}
use Rattle.ve_machine.specs.Seats.{Job, State, image_job, relator_job, submodule_job, with_job}

-- it is one of the level's; the id of a relator's job may have died since
abbrev pub IsOfLevel : ActionTable → Forwards → Job → Type 0
IsOfLevel O forwards (relator_job b number) =
    (b < length O.words) × (number < length (relators (presented O))) × (due (presented O) (word_at O b) (relator (presented O) number) ≡ O.level)
IsOfLevel O forwards (submodule_job number) = IsSubmoduleJob O number
IsOfLevel O forwards (image_job b x) = IsImageJob O forwards b x

-- if it is a relator's, its id is live
abbrev pub HasLiveId : Forwards → Job → Type 0
HasLiveId forwards (relator_job b number) = IsLiveIn forwards b
HasLiveId forwards (submodule_job number) = Unit {0}
HasLiveId forwards (image_job b x) = Unit {0}

-- it is neither done nor on a desk
pub record IsWaiting (S : State) (job : Job) : Type 0 where
  pub of_level : IsOfLevel S.opening S.forwards job
  pub live : HasLiveId S.forwards job
  pub undone : ¬ Contains S.done job
  pub on_no_desk : ¬ Contains S.desks (with_job job)

-- Its value less the vector is known; for an image job, by forwards and image jobs of lower ids at the same letter.
abbrev pub ComesFrom : ActionTable → Forwards → Job → Row → Type 0
ComesFrom O forwards (relator_job b number) v = Known O forwards (difference (presented O).prime (relator_value O b number) (element_of O v))
ComesFrom O forwards (submodule_job number) v = Known O forwards (difference (presented O).prime (submodule_value O number) (element_of O v))
ComesFrom O forwards (image_job b x) v = IsKnownBelow O forwards b x (difference (presented O).prime (image_value O forwards b x) v)

-- a vector of the table's ids
abbrev pub IsVectorOn : ActionTable → Row → Type 0
IsVectorOn O v = IsRow (presented O).prime (length O.words) v
