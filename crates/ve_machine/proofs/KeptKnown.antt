-- What stays where ids die: forwards of dead ids, forwardings, what is known, jobs, and the vectors that come from them.
use Rattle.std.proofs.Common.{◌≡◌, ℕ, suc, ◌+◌, ◌-◌, ◌*◌, ◌%◌, ◌<◌, nat_eq, Some, None, ◌++◌, sym, ap, subst, ◌∙◌, arith}
use Rattle.std.proofs.Math.ListN.{set}
use Rattle.std.proofs.lemmas.Option.{none-some}
use Rattle.ve_theory.specs.Residues.{Congruent}
use Rattle.ve_theory.specs.Combinations.{difference, scaled}
use Rattle.ve_theory.specs.Answers.{Row}
use Rattle.ve_theory.proofs.Sums.{SameWeights, SameWeights-append, SameWeights-trans, Alike_from_weights, differences-append, scaled-one, weigh, weigh-difference, weigh-scaled}
use Rattle.ve_theory.proofs.Independence.{congruent_by}
use Rattle.ve_vec.specs.Tracing.{row_or_zero, vector_times}
use Rattle.ve_table.specs.Tables.{ActionTable, element_of, presented, row_at}
use Rattle.ve_table.proofs.Entries.{same_some}
use Rattle.ve_machine.specs.Forwards.{Forwards, IsForwarding}
use Rattle.ve_machine.specs.Jobs.{HasForward, IsImageJob, IsKnownBelow, IsLiveIn, alike, by_forwards, by_lower, combined, image_value, relator_value, submodule_value}
use Rattle.ve_machine.specs.Seats.{Job, image_job, relator_job, submodule_job}
use Rattle.ve_machine.specs.SharedJobs.{ComesFrom, IsOfLevel}
use Rattle.ve_machine.specs.SharedLaws.{KeepsKnown}
use Rattle.ve_machine.proofs.Forwardings.{IsForwarding-alike, IsForwarding-scaled, dead_stands, stays_forwarding}
use Rattle.ve_machine.proofs.KnownElements.{known_forwarded, known_on, stays_known}
use Rattle.ve_machine.proofs.SharedLists.{set_else}

-- the other way round

turned_weight : (m u v : ℕ) → Congruent (suc m) (m * (u + m * v)) (v + m * u)
turned_weight m u v = congruent_by (suc m) (m * (u + m * v)) (v + m * u) v (m * v) (omega arith)

pub turned_same : (p : ℕ) (u v : Row) → 0 < p → SameWeights p (scaled (p - 1) (difference p u v)) (difference p v u)
turned_same p u v positive = record {
  at = λ h.
      let m : ℕ = p - 1 in
      let left : weigh h (scaled m (difference p u v)) ≡ m * (weigh h u + m * weigh h v) = weigh-scaled h m (difference p u v) ∙ ap (λ n. m * n) (weigh-difference h p u v) in
      ap (λ n. n % p) left
      ∙ subst (λ q. Congruent q (m * (weigh h u + m * weigh h v)) (weigh h v + m * weigh h u)) (omega (arith, positive)) (turned_weight m (weigh h u) (weigh h v))
      ∙ ap (λ n. n % p) (sym (weigh-difference h p v u));
}

pub forwarding_turned : (p : ℕ) (forwards : Forwards) (u v : Row) → 0 < p → IsForwarding p forwards (difference p u v) → IsForwarding p forwards (difference p v u)
forwarding_turned p forwards u v positive forwarding = IsForwarding-alike p forwards (turned_same p u v positive) (IsForwarding-scaled p forwards (p - 1) forwarding)

-- what is kept

pub live_not_dead : (forwards : Forwards) (b : ℕ) (f : Row) → IsLiveIn forwards b → HasForward forwards b f → ⊥
live_not_dead forwards b f live dead = none-some f (same_some None (Some f) (sym live ∙ dead))

pub kept_where_same : (O : ActionTable) (forwards : Forwards) → KeepsKnown O forwards forwards
kept_where_same O forwards = record { dead = λ b f is. is; forwardings = λ v is. is; known = λ v is. is }

pub kept_where_id_dies : (O : ActionTable) (forwards : Forwards) (b : ℕ) (f : Row) → 0 < (presented O).prime → IsLiveIn forwards b → KeepsKnown O forwards (set forwards b (Some f))
kept_where_id_dies O forwards b f positive live = record {
  dead = λ c g is. set_else forwards b c (Some f) (λ same. live_not_dead forwards b g live (subst (λ n. HasForward forwards n g) same is)) ∙ is;
  forwardings = stays_forwarding (presented O).prime forwards b f positive live;
  known = λ v is. stays_known O forwards b f v positive live is;
}

module _ (O : ActionTable) (old new : Forwards) (keeps : KeepsKnown O old new) where
  pub image_kept : (b x : ℕ) → IsImageJob O old b x → image_value O new b x ≡ image_value O old b x
  image_kept b x job =
      ap (λ v. difference (presented O).prime (row_or_zero (row_at O) x b) (vector_times (row_at O) v x))
      (dead_stands new b job.forward (keeps.dead b job.forward job.dead) ∙ sym (dead_stands old b job.forward job.dead))

  image_job_kept : (b x : ℕ) → IsImageJob O old b x → IsImageJob O new b x
  image_job_kept b x job = record { forward = job.forward; dead = keeps.dead b job.forward job.dead; due = job.due }

  below_kept : (b x : ℕ) {v : Row} → IsKnownBelow O old b x v → IsKnownBelow O new b x v
  below_kept b x (by_forwards v forwarding) = by_forwards v (keeps.forwardings v forwarding)
  below_kept b x (by_lower c less job) = subst (IsKnownBelow O new b x) (image_kept c x job) (by_lower c less (image_job_kept c x job))
  below_kept b x (alike u v same known) = alike u v same (below_kept b x known)
  below_kept b x (combined c d u v one other) = combined c d u v (below_kept b x one) (below_kept b x other)

  pub level_kept : (job : Job) → IsOfLevel O old job → IsOfLevel O new job
  level_kept (relator_job b number) level = level
  level_kept (submodule_job number) level = level
  level_kept (image_job b x) level = image_job_kept b x level

  pub comes_kept : (job : Job) (v : Row) → IsOfLevel O old job → ComesFrom O old job v → ComesFrom O new job v
  comes_kept (relator_job b number) v level comes = keeps.known (difference (presented O).prime (relator_value O b number) (element_of O v)) comes
  comes_kept (submodule_job number) v level comes = keeps.known (difference (presented O).prime (submodule_value O number) (element_of O v)) comes
  comes_kept (image_job b x) v level comes =
      subst (λ w. IsKnownBelow O new b x (difference (presented O).prime w v)) (sym (image_kept b x level)) (below_kept b x comes)

-- so does what differs by forwards

pub below_on : (O : ActionTable) (forwards : Forwards) (b x : ℕ) (u v w : Row) → 0 < (presented O).prime → IsKnownBelow O forwards b x (difference (presented O).prime u v)
    → IsForwarding (presented O).prime forwards (difference (presented O).prime v w) → IsKnownBelow O forwards b x (difference (presented O).prime u w)
below_on O forwards b x u v w positive one other =
    let p : ℕ = (presented O).prime in
    alike (scaled 1 (difference p u v) ++ scaled 1 (difference p v w)) (difference p u w)
    (Alike_from_weights nat_eq
    (SameWeights-trans (SameWeights-append (scaled-one p (difference p u v)) (scaled-one p (difference p v w))) (differences-append p u v w positive)))
    (combined 1 1 (difference p u v) (difference p v w) one (by_forwards (difference p v w) other))

pub comes_on : (O : ActionTable) (forwards : Forwards) (job : Job) (v w : Row) → 0 < (presented O).prime → ComesFrom O forwards job v
    → IsForwarding (presented O).prime forwards (difference (presented O).prime v w) → ComesFrom O forwards job w
comes_on O forwards (relator_job b number) v w positive comes forwarding =
    known_on O forwards (relator_value O b number) (element_of O v) (element_of O w) positive comes (known_forwarded O forwards v w forwarding)
comes_on O forwards (submodule_job number) v w positive comes forwarding =
    known_on O forwards (submodule_value O number) (element_of O v) (element_of O w) positive comes (known_forwarded O forwards v w forwarding)
comes_on O forwards (image_job b x) v w positive comes forwarding = below_on O forwards b x (image_value O forwards b x) v w positive comes forwarding
