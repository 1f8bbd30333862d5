-- What is traced is known, once it was imposed; and what was known stays so.
use Rattle.std.proofs.Common.{◌≡◌, ℕ, ◌+◌, ◌<◌, ◌≤◌, ◌⊎◌, inl, inr, Some, None, List, length, nat_eq, sym, ap, subst, ◌∙◌, arith}
use Rattle.std.specs.Prelude.{IsSome, slice_index_or, unwrap_or}
use Rattle.std.proofs.lemmas.Option.{get_or_from_slice_get, slice_get_within}
use Rattle.ve_theory.specs.Combinations.{unit, difference, Alike}
use Rattle.ve_theory.specs.Words.{Word, generator}
use Rattle.ve_theory.specs.Presentations.{letter_count, step, reach, relators, relator, submodule_relation, element_reach, due}
use Rattle.ve_theory.specs.Answers.{Row}
use Rattle.ve_vec.specs.Tracing.{PartialTable, row_or_zero, vector_times, vector_times_element, vector_of}
use Rattle.ve_pres.specs.Drafts.{Draft}
use Rattle.ve_table.specs.Tables.{ActionTable, presented, word_at, row_at, IsDead}
use Rattle.ve_table.specs.Sound.{IsSound}
use Rattle.ve_machine.specs.Forwards.{Forwards, IsForwarding, image_difference, stand_in}
use Rattle.ve_machine.specs.Known.{Known}
use Rattle.ve_machine.specs.Jobs.{HasForward, IsLiveIn, image_value, relator_value, submodule_value}
use Rattle.ve_machine.specs.Laws.{TracingIsKnown, TracesWhatIsKnown}
use Rattle.ve_plain.specs.Working.{Continues, IsAtWork, with_forwards}
use Rattle.ve_plain.specs.Works.{Imposes}
use Rattle.ve_plain.specs.declared.work.Work.{Work}
use Rattle.ve_plain.proofs.Lists.{live_or_dead}
use Rattle.ve_machine.proofs.Forwardings.{positive_prime}

-- what holds of a table's presentation, level and book holds of the opening's
pub on_opening : (Q : Draft → ℕ → List Word → Type 0) (O T : ActionTable) → IsAtWork O T → Q T.draft T.level T.words → Q O.draft O.level O.words
on_opening Q O T at_work here =
    subst (λ d. Q d O.level O.words) at_work.under_way.draft (subst (λ k. Q T.draft k O.words) at_work.under_way.level (subst (λ ws. Q T.draft T.level ws) at_work.under_way.words here))

pub on_table : (Q : Draft → ℕ → List Word → Type 0) (O T : ActionTable) → IsAtWork O T → Q O.draft O.level O.words → Q T.draft T.level T.words
on_table Q O T at_work there =
    subst (λ d. Q d T.level T.words) (sym at_work.under_way.draft) (subst (λ k. Q O.draft k T.words) (sym at_work.under_way.level) (subst (λ ws. Q O.draft O.level ws) (sym at_work.under_way.words) there))

pub later : (O A B : ActionTable) → IsAtWork O A → Continues A B → IsAtWork O B
later O A B at_work continues = record { opening = at_work.opening; sound = at_work.sound; under_way = continues.under_way O at_work.under_way }

-- the vector that stands for a dead id stays the same, and so does the value of its image job
dead_stands : (forwards : Forwards) (b : ℕ) (f : Row) → HasForward forwards b f → stand_in forwards b ≡ f
dead_stands forwards b f dead = ap (λ o. unwrap_or o (unit b)) (get_or_from_slice_get forwards b (Some f) None dead)

image_difference-kept : (p : ℕ) (rows : PartialTable) (F G : Forwards) (b x : ℕ) (f : Row) → HasForward F b f → HasForward G b f → image_difference p rows F b x ≡ image_difference p rows G b x
image_difference-kept p rows F G b x f before after = ap (λ s. difference p (row_or_zero rows x b) (vector_times rows s x)) (dead_stands F b f before ∙ sym (dead_stands G b f after))

pub image_stays : (O A B : ActionTable) → IsAtWork O A → Continues A B → (b x : ℕ) (f : Row) → HasForward A.forwards b f
    → IsForwarding (presented O).prime A.forwards (image_value O A.forwards b x) → IsForwarding (presented O).prime B.forwards (image_value O B.forwards b x)
image_stays O A B at_work continues b x f dead done =
    subst (IsForwarding (presented O).prime B.forwards) (image_difference-kept (presented O).prime (row_at O) A.forwards B.forwards b x f dead (continues.dead b f dead))
    (continues.forwardings (presented O).prime (image_value O A.forwards b x) (positive_prime O at_work.sound) done)

-- an id that is live later was live before
pub live_before : (A B : ActionTable) → IsSound A → Continues A B → (b : ℕ) → IsLiveIn B.forwards b → IsLiveIn A.forwards b
live_before A B sound continues b live = cases (live_or_dead A.forwards b (omega (arith, slice_get_within B.forwards b None live, continues.sound.one_forward_each, sound.one_forward_each, ap length continues.same_level.words)))
  where
    cases : IsLiveIn A.forwards b ⊎ ((f : Row) × HasForward A.forwards b f) → IsLiveIn A.forwards b
    cases (inl before) = before
    cases (inr dead) = absurd (let still = continues.dead b dead.0 dead.1 in let bad : Some (Some dead.0) ≡ Some None = sym still ∙ live in cc)

-- what was traced along the rows from which a vector was imposed
module _ (traces : TracingIsKnown) (O : ActionTable) (old new : Work) (v : Row) (at_work : IsAtWork O old.table) (imposes : Imposes old v new) where
  traced : TracesWhatIsKnown O (with_forwards old.table new.table.forwards)
  traced = traces O (with_forwards old.table new.table.forwards) at_work.opening at_work.sound (imposes.under_way O at_work.under_way)

  pub relator_known : (b number : ℕ) → b < length old.table.words → number < length (relators (presented old.table))
      → due (presented old.table) (word_at old.table b) (relator (presented old.table) number) ≤ old.table.level
      → Alike nat_eq (presented old.table).prime v (vector_times_element (row_at old.table) (unit b) (relator (presented old.table) number))
      → Known O new.table.forwards (relator_value O b number)
  relator_known b number known within is_due alike =
      let Q : Draft → ℕ → List Word → Type 0 = λ d k ws. (b < length ws) × (number < length (relators d.presentation))
      × (due d.presentation (slice_index_or ws b (generator 0)) (relator d.presentation number) ≤ k)
      × Alike nat_eq d.presentation.prime v (vector_times_element (row_at old.table) (unit b) (relator d.presentation number))
      × IsForwarding d.presentation.prime new.table.forwards v in
      let there : Q O.draft O.level O.words = on_opening Q O old.table at_work (known, within, is_due, alike, imposes.forwarding) in
      traced.relators b number v there.0 there.1 there.2 there.3 there.4

  pub submodule_known : (number : ℕ) → number < length (presented old.table).submodule
      → element_reach (presented old.table) (submodule_relation (presented old.table) number) ≤ old.table.level
      → Alike nat_eq (presented old.table).prime v (vector_of (row_at old.table) old.table.images (submodule_relation (presented old.table) number))
      → Known O new.table.forwards (submodule_value O number)
  submodule_known number within is_due alike =
      let Q : Draft → ℕ → List Word → Type 0 = λ d k ws. (number < length d.presentation.submodule)
      × (element_reach d.presentation (submodule_relation d.presentation number) ≤ k)
      × Alike nat_eq d.presentation.prime v (vector_of (row_at old.table) old.table.images (submodule_relation d.presentation number))
      × IsForwarding d.presentation.prime new.table.forwards v in
      let there : Q O.draft O.level O.words = on_opening Q O old.table at_work (within, is_due, alike, imposes.forwarding) in
      traced.submodule number v there.0 there.1 there.2 there.3

  pub image_known : (b x : ℕ) → IsSound old.table → IsDead old.table b → IsSome (row_at old.table b x)
      → Alike nat_eq (presented old.table).prime v (image_difference (presented old.table).prime (row_at old.table) old.table.forwards b x)
      → IsForwarding (presented O).prime new.table.forwards (image_value O new.table.forwards b x)
  image_known b x sound dead row alike =
      let still : HasForward new.table.forwards b dead.0 = imposes.lasts.continues.dead b dead.0 dead.1 in
      let same : image_difference (presented old.table).prime (row_at old.table) old.table.forwards b x ≡ image_difference (presented old.table).prime (row_at old.table) new.table.forwards b x =
      image_difference-kept (presented old.table).prime (row_at old.table) old.table.forwards new.table.forwards b x dead.0 dead.1 still in
      let Q : Draft → ℕ → List Word → Type 0 = λ d k ws. ((b < length ws) × (x < letter_count d.presentation) × (reach d.presentation (slice_index_or ws b (generator 0)) + step d.presentation x ≤ k))
      × Alike nat_eq d.presentation.prime v (image_difference d.presentation.prime (row_at old.table) new.table.forwards b x)
      × IsForwarding d.presentation.prime new.table.forwards v in
      let there : Q O.draft O.level O.words = on_opening Q O old.table at_work ((sound.due b x).0 row, subst (λ u. Alike nat_eq (presented old.table).prime v u) same alike, imposes.forwarding) in
      traced.images b x dead.0 v still there.0 there.1 there.2
