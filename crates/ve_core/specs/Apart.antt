-- Jobs on desks: each is on one desk, and isn't done.
use Rattle.std.specs.Prelude.{◌≡◌, ℕ, Contains, List, Some, slice_get}
use Rattle.ve_machine.specs.Seats.{Desk, Job, with_job}

pub record AreApart (done : List Job) (desks : List Desk) : Type 0 where
  pub undone : (seat : ℕ) (job : Job) → slice_get desks seat ≡ Some (with_job job) → ¬ Contains done job
  pub alone : (seat other : ℕ) (job : Job) → slice_get desks seat ≡ Some (with_job job) → slice_get desks other ≡ Some (with_job job) → seat ≡ other
