-- Desks, as contracts see them.
use Rattle.ve_machine.specs.Seats.{Desk, empty_desk, with_job, with_relation}
use Rattle.ve_hand.specs.Jobs.{job_of}
use Rattle.ve_core.specs.declared.desk.Held.{Held}
use Rattle.ve_core.specs.declared.desk.Held.TheVariants.{Job, Nothing, Relation}

abbrev pub desk_of : Held → Desk
desk_of Nothing = empty_desk
desk_of (Job job) = with_job (job_of job)
desk_of (Relation relation) = with_relation relation.value
