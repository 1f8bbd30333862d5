-- Jobs of relations, until all are done.
use Rattle.std.proofs.Common.{◌≡◌, ℕ, ◌+◌, ◌<◌, ◌≤◌, inl, inr, Some, None, All, List, [], length, get_or, sym, ap, subst, ◌∙◌, arith, below_more}
use Rattle.std.specs.Prelude.{Contains, slice_index, slice_index_or}
use Rattle.std.proofs.lemmas.List.{get_or_default}
use Rattle.std.proofs.lemmas.Option.{get_or_from_slice_get, slice_get_within}
use Rattle.ve_theory.specs.Words.{generator}
use Rattle.ve_theory.specs.Presentations.{element_reach, reach, submodule_relation}
use Rattle.ve_theory.specs.Answers.{Row}
use Rattle.ve_table.specs.Tables.{ActionTable, presented, reach_at}
use Rattle.ve_table.specs.Sound.{IsSound}
use Rattle.ve_machine.specs.Forwards.{Forwards}
use Rattle.ve_machine.specs.Finished.{IsFinishedTable, IsOpening}
use Rattle.ve_machine.specs.Jobs.{HasForward, IsSettled, image_value, relator_value, submodule_value}
use Rattle.ve_machine.specs.Jobs.IsKnownBelow.{by_forwards}
use Rattle.ve_machine.specs.Laws.{NothingLeftIsFinished, OpeningsAreUnderWay}
use Rattle.ve_plain.specs.Due.{due_numbers}
use Rattle.ve_plain.specs.Working.{Continues, HaveImagesBut, IsAtWork, KnowsRelator, KnowsRelators, KnowsSubmodule}
use Rattle.ve_plain.specs.Works.{Settles}
use Rattle.ve_plain.specs.declared.work.Work.{Work}
use Rattle.ve_machine.proofs.Forwardings.{positive_prime}
use Rattle.ve_plain.proofs.DueNumbers.{every_due}
use Rattle.ve_plain.proofs.Known.{later, live_before, on_table}
use Rattle.ve_plain.proofs.Settling.{Settles-trans}

relator_stays : (O A B : ActionTable) → IsAtWork O A → Continues A B → (b number : ℕ) → KnowsRelator O A.forwards b number → KnowsRelator O B.forwards b number
relator_stays O A B at_work continues b number known = λ live is_due.
    continues.known O (relator_value O b number) (positive_prime O at_work.sound) (known (live_before A B at_work.under_way.sound continues b live) is_due)

submodule_stays : (O A B : ActionTable) → IsAtWork O A → Continues A B → (number : ℕ) → KnowsSubmodule O A.forwards number → KnowsSubmodule O B.forwards number
submodule_stays O A B at_work continues number known = λ is_due. continues.known O (submodule_value O number) (positive_prime O at_work.sound) (known is_due)

-- the relators at places below one of a list, at an id; those at the ids below one; the submodule relations below a number
abbrev pub KnowsRelatorsBelow : Work → Work → ℕ → List ℕ → ℕ → Type 0
KnowsRelatorsBelow old now id numbers count =
    (O : ActionTable) → IsAtWork O old.table → (place : ℕ) → place < count → KnowsRelator O now.table.forwards id (slice_index numbers place)

abbrev pub KnowsIdsBelow : Work → Work → ℕ → Type 0
KnowsIdsBelow old now count = (O : ActionTable) → IsAtWork O old.table → (b : ℕ) → b < count → KnowsRelators O now.table.forwards b

abbrev pub KnowsSubmoduleBelow : Work → Work → ℕ → Type 0
KnowsSubmoduleBelow old now count = (O : ActionTable) → IsAtWork O old.table → (number : ℕ) → number < count → KnowsSubmodule O now.table.forwards number

-- one more of each
module _ (old now after : Work) (first : Continues old.table now.table) (second : Continues now.table after.table) where
  pub one_more_relator : (id place : ℕ) (numbers : List ℕ) → KnowsRelatorsBelow old now id numbers place
      → ((O : ActionTable) → IsAtWork O now.table → KnowsRelator O after.table.forwards id (slice_index numbers place)) → KnowsRelatorsBelow old after id numbers (place + 1)
  one_more_relator id place numbers below here = λ O at_work.
      let at_work_then : IsAtWork O now.table = later O old.table now.table at_work first in
      below_more (λ k. KnowsRelator O after.table.forwards id (slice_index numbers k)) place
      (λ k lt. relator_stays O now.table after.table at_work_then second id (slice_index numbers k) (below O at_work k lt)) (here O at_work_then)

  pub one_more_id : (id : ℕ) → KnowsIdsBelow old now id → ((O : ActionTable) → IsAtWork O now.table → KnowsRelators O after.table.forwards id) → KnowsIdsBelow old after (id + 1)
  one_more_id id below here = λ O at_work.
      let at_work_then : IsAtWork O now.table = later O old.table now.table at_work first in
      below_more (λ b. KnowsRelators O after.table.forwards b) id
      (λ b lt number within. relator_stays O now.table after.table at_work_then second b number (below O at_work b lt number within)) (here O at_work_then)

  pub one_more_relation : (number : ℕ) → KnowsSubmoduleBelow old now number → ((O : ActionTable) → IsAtWork O now.table → KnowsSubmodule O after.table.forwards number)
      → KnowsSubmoduleBelow old after (number + 1)
  one_more_relation number below here = λ O at_work.
      let at_work_then : IsAtWork O now.table = later O old.table now.table at_work first in
      below_more (λ k. KnowsSubmodule O after.table.forwards k) number (λ k lt. submodule_stays O now.table after.table at_work_then second k (below O at_work k lt)) (here O at_work_then)

-- the list of those that are due leaves out no job
pub each_relator : (old now : Work) (id count : ℕ) (numbers : List ℕ) → numbers ≡ due_numbers (presented old.table) old.table.level (reach_at old.table id) → length numbers ≤ count
    → KnowsRelatorsBelow old now id numbers count → (O : ActionTable) → IsAtWork O old.table → KnowsRelators O now.table.forwards id
each_relator old now id count numbers are all below O at_work number within live is_due =
    let there : Contains (due_numbers (presented old.table) old.table.level (reach_at old.table id)) number =
    on_table (λ d k ws. Contains (due_numbers d.presentation k (reach d.presentation (slice_index_or ws id (generator 0)))) number) O old.table at_work
    (every_due (presented O) O.level (reach_at O id) number within is_due) in
    let found : Contains numbers number = subst (λ l. Contains l number) (sym are) there in
    let same : slice_index numbers found.0 ≡ number = get_or_default numbers found.0 0 number found.1 ∙ found.2 in
    subst (KnowsRelator O now.table.forwards id) same (below O at_work found.0 (omega (arith, found.1, all))) live is_due

-- a job that isn't due
pub reach_there : (O T : ActionTable) (number : ℕ) → IsAtWork O T → element_reach (presented O) (submodule_relation (presented O) number) ≡ O.level
    → element_reach (presented T) (submodule_relation (presented T) number) ≡ T.level
reach_there O T number at_work is_due = on_table (λ d k ws. element_reach d.presentation (submodule_relation d.presentation number) ≡ k) O T at_work is_due

-- only ids of the table are live
pub no_further_id : (old now : Work) (count : ℕ) → Continues old.table now.table → length old.table.words ≤ count → KnowsIdsBelow old now count
    → (O : ActionTable) → IsAtWork O old.table → (b : ℕ) → KnowsRelators O now.table.forwards b
no_further_id old now count continues all below O at_work b number within live =
    below O at_work b (omega (arith, all, slice_get_within now.table.forwards b None live, continues.sound.one_forward_each, ap length continues.same_level.words)) number within live

-- nothing is left to do
pub all_settled : (old middle new : Work) → old.waiting.items ≡ [] → Settles old middle → Settles middle new
    → ((O : ActionTable) → IsAtWork O old.table → (number : ℕ) → number < length (presented O).submodule → KnowsSubmodule O middle.table.forwards number)
    → ((O : ActionTable) → IsAtWork O middle.table → (b : ℕ) → KnowsRelators O new.table.forwards b)
    → (O : ActionTable) → IsAtWork O old.table → HaveImagesBut O old.table.forwards [] → IsSettled O new.table.forwards
all_settled old middle new idle first second submodule each O at_work have =
    let at_work_then : IsAtWork O middle.table = later O old.table middle.table at_work first.continues in
    let images : HaveImagesBut O new.table.forwards [] =
    (Settles-trans old middle new first second).images O at_work (subst (HaveImagesBut O old.table.forwards) (sym idle) have) in
    record {
      relators = λ b number job. each O at_work_then b number (omega (arith, job)) job.live job.due;
      submodule = λ number job. submodule_stays O middle.table new.table at_work_then second.continues number (submodule O at_work number (omega (arith, job))) job.due;
      images = λ b x job.
          by_forwards (image_value O new.table.forwards b x)
          (elim (images b job.forward job.dead) [ inl waits ↦ absurd (omega (arith, waits.1)) | inr done ↦ done x job.due ]);
    }

-- no id of an opening is dead
no_dead : (forwards : Forwards) (b : ℕ) (f : Row) → All (λ forward. forward ≡ None) forwards → HasForward forwards b f → ⊥
no_dead forwards b f packed dead =
    let there : get_or forwards b None ≡ Some f = get_or_from_slice_get forwards b (Some f) None dead in
    let live : get_or forwards b None ≡ None = packed b None (slice_get_within forwards b (Some f) dead) in
    let bad : None ≡ Some f = sym live ∙ there in cc

pub finished_table : OpeningsAreUnderWay → NothingLeftIsFinished → (O T : ActionTable) → IsOpening O → IsSound O → Continues O T
    → ((P : ActionTable) → IsAtWork P O → HaveImagesBut P O.forwards [] → IsSettled P T.forwards) → IsFinishedTable T
finished_table openings finishes O T opening sound continues settled =
    let packed = (openings O opening sound).0 in
    let under_way = (openings O opening sound).1 in
    let at_work : IsAtWork O O = record { opening = opening; sound = sound; under_way = under_way } in
    finishes O T opening sound (continues.under_way O under_way) (settled O at_work (λ b f dead. absurd (no_dead O.forwards b f packed dead)))
