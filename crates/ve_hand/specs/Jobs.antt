-- Jobs, as contracts see them.
use Rattle.std.specs.Prelude.{◌<◌, length}
use Rattle.ve_theory.specs.Presentations.{relators}
use Rattle.ve_table.specs.Tables.{ActionTable, presented}
use Rattle.ve_machine.specs.Seats.{Job as SeatJob, image_job, relator_job, submodule_job}
use Rattle.ve_hand.specs.declared.job.Job.{Job}
use Rattle.ve_hand.specs.declared.job.Job.TheVariants.{Image, Relator, Sub}

abbrev pub job_of : Job → SeatJob
job_of (Relator id number) = relator_job id number
job_of (Sub number) = submodule_job number
job_of (Image id letter) = image_job id letter

-- the job's relation is one of the presentation's; a job of a level has one
abbrev pub HasRelation : ActionTable → SeatJob → Type 0
HasRelation T (relator_job b number) = number < length (relators (presented T))
HasRelation T (submodule_job number) = number < length (presented T).submodule
HasRelation T (image_job b x) = Unit {0}
