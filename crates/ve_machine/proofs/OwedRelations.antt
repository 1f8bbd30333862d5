-- What is owed stays owed, but for forwards.
use Rattle.std.proofs.Common.{ℕ, ◌<◌, nat_eq, [], ◌++◌, Contains, arith}
use Rattle.ve_theory.specs.Combinations.{difference, scaled}
use Rattle.ve_theory.specs.Answers.{Row}
use Rattle.ve_theory.proofs.Sums.{SameWeights, SameWeights-difference, SameWeights-refl, SameWeights-sym, Decides-nat_eq, difference-nil, weigh-append, weigh-scaled, weights_from_Alike}
use Rattle.ve_theory.proofs.DerivedElements.{SameWeights-equal}
use Rattle.ve_table.specs.Tables.{presented}
use Rattle.ve_machine.specs.Forwards.{IsForwarding}
use Rattle.ve_machine.specs.Seats.{HasDesk, Job, State, with_relation}
use Rattle.ve_machine.specs.SharedJobs.{ComesFrom, IsOfLevel}
use Rattle.ve_machine.specs.SharedLaws.{KeepsKnown}
use Rattle.ve_machine.specs.Covered.{IsOwedBy, Owed, alike, combined, lifted, nothing, queued}
use Rattle.ve_machine.proofs.Forwardings.{IsForwarding-alike, IsForwarding-append, IsForwarding-scaled, nothing_forwarded}
use Rattle.ve_machine.proofs.KeptKnown.{comes_kept, comes_on}

-- the vector, but for forwards, is owed
abbrev pub Passes : ℕ → State → Row → Type 0
Passes p T v = (w : Row) × Owed T w × IsForwarding p T.forwards (difference p v w)

pub passes_itself : (p : ℕ) (T : State) (v : Row) → 0 < p → Owed T v → Passes p T v
passes_itself p T v positive owed = (v, owed, nothing_forwarded p T.forwards v v positive (SameWeights-refl p v))

pub passes_away : (p : ℕ) (T : State) (v : Row) → IsForwarding p T.forwards v → Passes p T v
passes_away p T v forwarding = ([], nothing, IsForwarding-alike p T.forwards (SameWeights-sym (difference-nil p v)) forwarding)

sums_apart : (p c d : ℕ) (u v w x : Row) → SameWeights p (scaled c (difference p u w) ++ scaled d (difference p v x)) (difference p (scaled c u ++ scaled d v) (scaled c w ++ scaled d x))
sums_apart p c d u v w x = SameWeights-equal (λ h. simp (weigh-append, weigh-scaled) (omega arith))

module _ (S T : State) (positive : 0 < (presented S.opening).prime) (from_queue : (v : Row) → Contains S.queue v → Passes (presented S.opening).prime T v)
    (from_desks : (seat : ℕ) (v : Row) → HasDesk S seat (with_relation v) → Passes (presented S.opening).prime T v) where
  abbrev p : ℕ
  p = (presented S.opening).prime

  owed_passes : {v : Row} → Owed S v → Passes p T v
  owed_passes nothing = passes_itself p T [] positive nothing
  owed_passes (queued v there) = from_queue v there
  owed_passes (lifted seat v there) = from_desks seat v there
  owed_passes (alike u v same owed) =
      let passed = owed_passes owed in
      (passed.0, passed.1, IsForwarding-alike p T.forwards (SameWeights-difference (weights_from_Alike nat_eq Decides-nat_eq p u v same) (SameWeights-refl p passed.0)) passed.2)
  owed_passes (combined c d u v one other) =
      let first = owed_passes one in
      let second = owed_passes other in (
        scaled c first.0 ++ scaled d second.0,
        combined c d first.0 second.0 first.1 second.1,
        IsForwarding-alike p T.forwards (sums_apart p c d u v first.0 second.0)
            (IsForwarding-append p T.forwards (IsForwarding-scaled p T.forwards c first.2) (IsForwarding-scaled p T.forwards d second.2)),
      )

  -- from a job comes what is owed afterwards
  pub covered_on : (job : Job) → KeepsKnown S.opening S.forwards T.forwards → IsOfLevel S.opening S.forwards job → IsOwedBy S job
      → (w : Row) × Owed T w × ComesFrom S.opening T.forwards job w
  covered_on job keeps level owed =
      let passed = owed_passes owed.1 in
      (passed.0, passed.1, comes_on S.opening T.forwards job owed.0 passed.0 positive (comes_kept S.opening S.forwards T.forwards keeps job owed.0 level owed.2) passed.2)
