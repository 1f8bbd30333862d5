-- Image jobs, until no id waits.
use Rattle.std.proofs.Common.{◌≡◌, ℕ, ◌+◌, ◌<◌, ◌≤◌, inl, inr, ◌++◌, All, [], ◌∷◌, length, Some, get_or, sym, subst, below_more}
use Rattle.std.specs.Prelude.{Contains, slice_index_or}
use Rattle.std.proofs.lemmas.List.Elements.{All-nil, All-pop, All-contains, Contains-push, Contains-push_cases}
use Rattle.ve_theory.specs.Words.{generator}
use Rattle.ve_theory.specs.Presentations.{letter_count, reach, step}
use Rattle.ve_theory.specs.Answers.{Row}
use Rattle.ve_table.specs.Tables.{ActionTable, presented, IsDead, IsDue}
use Rattle.ve_table.specs.Sound.{IsSound}
use Rattle.ve_machine.specs.Forwards.{IsForwarding}
use Rattle.ve_machine.specs.Jobs.{HasForward, image_value}
use Rattle.ve_plain.specs.Working.{Continues, HasImages, HaveImagesBut, IsAtWork}
use Rattle.ve_plain.specs.Works.{Lasts, OnlyDeadWait, Settles}
use Rattle.ve_plain.specs.declared.work.Work.{Work}
use Rattle.ve_plain.proofs.Going.{Continues-refl, Continues-trans}
use Rattle.ve_plain.proofs.Known.{image_stays, later, on_table}

pub HasImages-stays : (O A B : ActionTable) → IsAtWork O A → Continues A B → (b : ℕ) (f : Row) → HasForward A.forwards b f → HasImages O A.forwards b → HasImages O B.forwards b
HasImages-stays O A B at_work continues b f dead done = λ x is_due. image_stays O A B at_work continues b x f dead (done x is_due)

-- ids that died since wait
pub HaveImages-lasts : (O : ActionTable) (old new : Work) → IsAtWork O old.table → Lasts old new → HaveImagesBut O old.table.forwards old.waiting.items
    → HaveImagesBut O new.table.forwards new.waiting.items
HaveImages-lasts O old new at_work lasts have = λ b f dead.
    elim (lasts.died b f dead) [
      | inl before ↦ (elim (have b f before) [ inl waits ↦ inl (lasts.waiting b waits) | inr done ↦ inr (HasImages-stays O old.table new.table at_work lasts.continues b f before done) ])
      | inr waits ↦ inl waits
    ]

-- what holds on the way, until no id waits
pub record IsSettling (old now : Work) : Type 0 where
  pub continues : Continues old.table now.table
  pub only_dead : OnlyDeadWait now
  pub images : (O : ActionTable) → IsAtWork O old.table → HaveImagesBut O old.table.forwards old.waiting.items → HaveImagesBut O now.table.forwards now.waiting.items

pub IsSettling-refl : (work : Work) → IsSound work.table → OnlyDeadWait work → IsSettling work work
IsSettling-refl work sound only = record { continues = Continues-refl work.table sound; only_dead = only; images = λ O at_work have. have }

pub IsSettling-done : (old now : Work) → IsSettling old now → now.waiting.items ≡ [] → Settles old now
IsSettling-done old now settling idle = record {
  continues = settling.continues;
  idle = idle;
  images = λ O at_work have. subst (HaveImagesBut O now.table.forwards) idle (settling.images O at_work have);
}

-- an id is taken from the end, and its image jobs are done
module _ (old now taken after : Work) (id : ℕ) (settling : IsSettling old now) (table_is : taken.table ≡ now.table) (items : now.waiting.items ≡ taken.waiting.items ++ id ∷ []) where
  here : All (IsDead now.table) (taken.waiting.items ++ id ∷ [])
  here = subst (All (IsDead now.table)) items settling.only_dead

  pub taken_dead : IsDead taken.table id
  taken_dead = subst (λ T. IsDead T id) (sym table_is) (All-contains (IsDead now.table) (taken.waiting.items ++ id ∷ []) id here (Contains-push taken.waiting.items id))

  pub settles_more : Lasts taken after → ((O : ActionTable) → IsAtWork O taken.table → HasImages O after.table.forwards id) → IsSettling old after
  settles_more lasts done = record {
    continues = whole;
    only_dead = lasts.only_dead (λ k d lt. subst (λ T. IsDead T (get_or taken.waiting.items k d)) (sym table_is) (rest k d lt));
    images = λ O at_work have b f dead.
        let at_work_then : IsAtWork O now.table = later O old.table now.table at_work settling.continues in
        let at_work_taken : IsAtWork O taken.table = subst (IsAtWork O) (sym table_is) at_work_then in
        elim (lasts.died b f dead) [
          | inl before ↦ (elim (settling.images O at_work have b f (subst (λ T. HasForward T.forwards b f) table_is before)) [
            | inl waits ↦ (elim (Contains-push_cases taken.waiting.items id b (subst (λ l. Contains l b) items waits)) [
              | inl still ↦ inl (lasts.waiting b still)
              | inr same ↦ inr (subst (HasImages O after.table.forwards) same (done O at_work_taken))
            ])
            | inr images ↦ inr (HasImages-stays O taken.table after.table at_work_taken lasts.continues b f before (subst (λ T. HasImages O T.forwards b) (sym table_is) images))
          ])
          | inr waits ↦ inl waits
        ];
  }
    where
      whole : Continues old.table after.table
      whole = Continues-trans old.table now.table after.table settling.continues (subst (λ T. Continues T after.table) table_is lasts.continues)

      rest : All (IsDead now.table) taken.waiting.items
      rest = (All-pop (IsDead now.table) now.waiting.items taken.waiting.items (Some id) items settling.only_dead).0

-- from one time at which no id waits to the next
pub Settles-refl : (work : Work) → IsSound work.table → work.waiting.items ≡ [] → Settles work work
Settles-refl work sound idle = record {
  continues = Continues-refl work.table sound;
  idle = idle;
  images = λ O at_work have. subst (HaveImagesBut O work.table.forwards) idle have;
}

pub Settles-trans : (a b c : Work) → Settles a b → Settles b c → Settles a c
Settles-trans a b c first second = record {
  continues = Continues-trans a.table b.table c.table first.continues second.continues;
  idle = second.idle;
  images = λ O at_work have.
      second.images O (later O a.table b.table at_work first.continues) (subst (HaveImagesBut O b.table.forwards) (sym first.idle) (first.images O at_work have));
}

pub settles_after : (old middle new : Work) → Lasts old middle → Settles middle new → Settles old new
settles_after old middle new lasts settles = record {
  continues = Continues-trans old.table middle.table new.table lasts.continues settles.continues;
  idle = settles.idle;
  images = λ O at_work have. settles.images O (later O old.table middle.table at_work lasts.continues) (HaveImages-lasts O old middle at_work lasts have);
}

pub nothing_waits : (work : Work) → work.waiting.items ≡ [] → OnlyDeadWait work
nothing_waits work idle = subst (All (IsDead work.table)) (sym idle) (All-nil (IsDead work.table))

-- the image jobs of an id at the letters below one are done
abbrev pub HasImagesBelow : Work → Work → ℕ → ℕ → Type 0
HasImagesBelow old now id letter =
    (O : ActionTable) → IsAtWork O old.table → (x : ℕ) → x < letter → IsDue O id x → IsForwarding (presented O).prime now.table.forwards (image_value O now.table.forwards id x)

pub one_more_letter : (old now after : Work) (id letter : ℕ) → IsDead old.table id → Lasts old now → Lasts now after → HasImagesBelow old now id letter
    → ((O : ActionTable) → IsAtWork O now.table → IsDue O id letter → IsForwarding (presented O).prime after.table.forwards (image_value O after.table.forwards id letter))
    → HasImagesBelow old after id (letter + 1)
one_more_letter old now after id letter dead first second below here = λ O at_work.
    let at_work_then : IsAtWork O now.table = later O old.table now.table at_work first.continues in
    below_more (λ x. IsDue O id x → IsForwarding (presented O).prime after.table.forwards (image_value O after.table.forwards id x)) letter
    (λ x lt is_due. image_stays O now.table after.table at_work_then second.continues id x dead.0 (first.continues.dead id dead.0 dead.1) (below O at_work x lt is_due))
    (here O at_work_then)

-- the letter has no product with the id
pub no_product : (O T : ActionTable) (id letter : ℕ) → IsAtWork O T → IsDue O id letter → IsDue T id letter
no_product O T id letter at_work is_due =
    on_table (λ d k ws. (id < length ws) × (letter < letter_count d.presentation) × (reach d.presentation (slice_index_or ws id (generator 0)) + step d.presentation letter ≤ k)) O T at_work is_due
