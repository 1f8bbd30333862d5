-- The work of a level goes on.
use Rattle.std.proofs.Common.{◌≡◌, ℕ, ◌+◌, ◌≤◌, ◌⊎◌, inl, inr, ◌++◌, Some, None, All, [], ◌∷◌, length, refl, sym, ap, subst, ◌∙◌, arith, length-append}
use Rattle.std.specs.Prelude.{Contains, count_by}
use Rattle.std.specs.Option.{is_none}
use Rattle.std.proofs.lemmas.List.Elements.{All-push, All-weaker, Contains-append_left, Contains-push}
use Rattle.ve_theory.specs.Answers.{Row}
use Rattle.ve_table.specs.Tables.{ActionTable, presented, IsDead}
use Rattle.ve_table.specs.Changes.{with_forward}
use Rattle.ve_machine.specs.Forwards.{IsForwarding}
use Rattle.ve_machine.specs.Jobs.{HasForward, IsUnderWay}
use Rattle.ve_plain.specs.Working.{Continues, Vanishes, with_forwards}
use Rattle.ve_plain.specs.Works.{Imposes, Lasts, OnlyDeadWait, left_to_do}
use Rattle.ve_plain.specs.declared.work.Work.{Work}
use Rattle.ve_plain.proofs.Lists.{HasForward-before, count_by-dead}
use Rattle.ve_plain.proofs.Going.{Continues-trans, dead_there}

abbrev still_dead : (A B : ActionTable) → Continues A B → (b : ℕ) → IsDead A b → IsDead B b
still_dead A B continues b dead = (dead.0, continues.dead b dead.0 dead.1)

pub Lasts-refl : (work : Work) → Continues work.table work.table → Lasts work work
Lasts-refl work continues = record {
  continues = continues;
  only_dead = λ only. only;
  waiting = λ b waits. waits;
  died = λ b f dead. inl dead;
  less = omega arith;
}

pub Lasts-trans : (a b c : Work) → Lasts a b → Lasts b c → Lasts a c
Lasts-trans a b c first second = record {
  continues = Continues-trans a.table b.table c.table first.continues second.continues;
  only_dead = λ only. second.only_dead (first.only_dead only);
  waiting = λ d waits. second.waiting d (first.waiting d waits);
  died = λ d f dead. elim (second.died d f dead) [ inl before ↦ (elim (first.died d f before) [ inl there ↦ inl there | inr waits ↦ inr (second.waiting d waits) ]) | inr waits ↦ inr waits ];
  less = let one = first.less in let other = second.less in omega arith;
}

-- an id dies and waits, and a row may be rewritten
module _ (old new : Work) (v : Row) (middle : ActionTable) (id : ℕ) (vanishes : Vanishes old.table v (Some id) middle) (continues : Continues middle new.table)
    (forwards : new.table.forwards ≡ middle.forwards) (waits : new.waiting.items ≡ old.waiting.items ++ id ∷ []) where
  abbrev f : Row
  f = vanishes.dead.1.0

  middle_is : middle ≡ with_forward old.table id f
  middle_is = vanishes.dead.1.1

  middle_forwards : middle.forwards ≡ (with_forward old.table id f).forwards
  middle_forwards = ap (λ (T : ActionTable). T.forwards) middle_is

  whole : Continues old.table new.table
  whole = Continues-trans old.table middle new.table vanishes.continues continues

  one_more : (Q : ℕ → Type 0) → All Q old.waiting.items → Q id → All Q new.waiting.items
  one_more Q all here = subst (All Q) (sym waits) (All-push Q old.waiting.items id all here)

  only : OnlyDeadWait old → OnlyDeadWait new
  only all =
      one_more (IsDead new.table) (All-weaker (IsDead old.table) (IsDead new.table) (λ b dead. still_dead old.table new.table whole b dead) old.waiting.items all)
      (still_dead middle new.table continues id (dead_there old.table middle v id vanishes))

  died_now : (b : ℕ) (g : Row) → HasForward new.table.forwards b g → HasForward old.table.forwards b g ⊎ Contains new.waiting.items b
  died_now b g dead =
      let there : HasForward (with_forward old.table id f).forwards b g = subst (λ F. HasForward F b g) (forwards ∙ middle_forwards) dead in
      elim (HasForward-before old.table.forwards id b f g there) [
        | inl same ↦ inr (subst (λ l. Contains l b) (sym waits) (subst (λ c. Contains (old.waiting.items ++ id ∷ []) c) same (Contains-push old.waiting.items id)))
        | inr before ↦ inl before
      ]

  fewer : left_to_do new ≤ left_to_do old
  fewer =
      let counted : count_by is_none new.table.forwards ≡ count_by is_none (with_forward old.table id f).forwards = ap (count_by is_none) (forwards ∙ middle_forwards) in
      let one_less = count_by-dead old.table.forwards id f vanishes.dead.0 in
      let longer : length new.waiting.items ≡ length old.waiting.items + 1 = ap length waits ∙ length-append old.waiting.items (id ∷ []) in
      omega (arith, counted, one_less, longer)

  pub imposes_death : Imposes old v new
  imposes_death = record {
    lasts = record {
      continues = whole;
      only_dead = only;
      waiting = λ b there. subst (λ l. Contains l b) (sym waits) (Contains-append_left old.waiting.items (id ∷ []) b there);
      died = died_now;
      less = fewer;
    };
    forwarding = subst (λ F. IsForwarding (presented old.table).prime F v) (sym forwards) vanishes.forwarding;
    under_way = λ O under_way.
        let there : IsUnderWay O middle = vanishes.continues.under_way O under_way in
        subst (λ F. IsUnderWay O (with_forwards old.table F)) (sym (forwards ∙ middle_forwards)) (subst (IsUnderWay O) middle_is there);
  }

-- nothing dies
pub imposes_nothing : (old new : Work) (v : Row) → Vanishes old.table v None new.table → new.waiting.items ≡ old.waiting.items → Imposes old v new
imposes_nothing old new v vanishes waits =
    let same : new.table ≡ old.table = vanishes.same refl in
    record {
      lasts = record {
        continues = vanishes.continues;
        only_dead = λ all. subst (λ l. All (IsDead new.table) l) (sym waits) (subst (λ T. All (IsDead T) old.waiting.items) (sym same) all);
        waiting = λ b there. subst (λ l. Contains l b) (sym waits) there;
        died = λ b f dead. inl (subst (λ T. HasForward T.forwards b f) same dead);
        less = let counted : count_by is_none new.table.forwards ≡ count_by is_none old.table.forwards = ap (λ T. count_by is_none T.forwards) same in omega (arith, counted, ap length waits);
      };
      forwarding = vanishes.forwarding;
      under_way = λ O under_way. subst (λ T. IsUnderWay O (with_forwards old.table T.forwards)) (sym same) under_way;
    }
