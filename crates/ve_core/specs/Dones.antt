-- Done jobs, as contracts see them.
use Rattle.std.specs.Prelude.{List, map, reverse}
use Rattle.ve_machine.specs.Seats.{Job, image_job, relator_job, submodule_job}
use Rattle.ve_core.specs.declared.done.Key.{Key}
use Rattle.ve_core.specs.declared.done.Key.TheVariants.{Image, Relator, Sub}

abbrev pub job_of_key : Key → Job
job_of_key (Relator id number) = relator_job id number
job_of_key (Sub number) = submodule_job number
job_of_key (Image id letter) = image_job id letter

-- the last one first
abbrev pub jobs_of : List Key → List Job
jobs_of keys = reverse (map job_of_key keys)
