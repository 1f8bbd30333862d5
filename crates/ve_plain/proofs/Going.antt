-- Tables at work go on: what each step keeps.
use Rattle.std.proofs.Common.{◌≡◌, ℕ, ◌+◌, ◌<◌, ◌++◌, ◌↔◌, All, Some, None, IfSome, [], ◌∷◌, length, refl, sym, ap, subst, ◌∙◌, arith}
use Rattle.std.specs.Prelude.{Option, IsNone}
use Rattle.std.proofs.Math.ListN.{set}
use Rattle.std.proofs.lemmas.List.Elements.{All-head, All-contains, Contains-push}
use Rattle.std.proofs.lemmas.Option.{slice_get_within}
use Rattle.ve_theory.specs.Combinations.{difference}
use Rattle.ve_theory.specs.Words.{generator, times, letters}
use Rattle.ve_theory.specs.Presentations.{letter_count, reach, step, IsWord}
use Rattle.ve_theory.specs.Answers.{Row}
use Rattle.ve_theory.specs.Laws.{ReachAddsUp}
use Rattle.ve_table.specs.Tables.{ActionTable, presented, word_at, row_at, IsDead, IsDue, IsLive}
use Rattle.ve_table.specs.Books.{IsOriginOf}
use Rattle.ve_table.specs.declared.origin.Origin.TheVariants.{Child}
use Rattle.ve_table.specs.Sound.{IsSound}
use Rattle.ve_table.specs.Changes.{with_forward, with_row}
use Rattle.ve_machine.specs.Forwards.{IsDrawnFrom, IsForwarding, IsResolved, IsRewritten}
use Rattle.ve_machine.specs.Jobs.{HasForward}
use Rattle.ve_machine.specs.Laws.{DeathsKeep, ForwardingsAreASpace, StaysUnderWay}
use Rattle.ve_machine.proofs.Forwardings.{positive_prime}
use Rattle.ve_plain.specs.Working.{Continues, Vanishes}
use Rattle.ve_plain.proofs.Lists.{HasForward-kept, HasForward-new}

pub Continues-refl : (T : ActionTable) → IsSound T → Continues T T
Continues-refl T sound = record {
  sound = sound;
  same_level = record { draft = refl; level = refl; words = refl };
  dead = λ b f dead. dead;
  forwardings = λ p v positive forwarding. forwarding;
  known = λ O v positive known. known;
  under_way = λ O under_way. under_way;
}

pub Continues-trans : (A B C : ActionTable) → Continues A B → Continues B C → Continues A C
Continues-trans A B C first second = record {
  sound = second.sound;
  same_level = record {
    draft = second.same_level.draft ∙ first.same_level.draft;
    level = second.same_level.level ∙ first.same_level.level;
    words = second.same_level.words ∙ first.same_level.words;
  };
  dead = λ b f dead. second.dead b f (first.dead b f dead);
  forwardings = λ p v positive forwarding. second.forwardings p v positive (first.forwardings p v positive forwarding);
  known = λ O v positive known. second.known O v positive (first.known O v positive known);
  under_way = λ O under_way. second.under_way O (first.under_way O under_way);
}

-- where a live id dies
pub Continues-death : DeathsKeep → StaysUnderWay → (T : ActionTable) (b : ℕ) (f : Row) → IsLive T b → IsSound (with_forward T b f) → Continues T (with_forward T b f)
Continues-death keep stays T b f live sound = record {
  sound = sound;
  same_level = record { draft = refl; level = refl; words = refl };
  dead = λ c g dead. HasForward-kept T.forwards b c f g live dead;
  forwardings = λ p v positive forwarding. keep.forwardings p T.forwards b f v positive live forwarding;
  known = λ O v positive known. keep.known O T.forwards b f v positive live known;
  under_way = λ O under_way. stays.deaths O T b f under_way live sound;
}

-- where a row is rewritten
pub Continues-rewritten : StaysUnderWay → (T : ActionTable) (b x : ℕ) (row next : Row) → row_at T b x ≡ Some row → IsRewritten (presented T).prime T.forwards row next
    → IsSound (with_row T b x next) → Continues T (with_row T b x next)
Continues-rewritten stays T b x row next row_is rewritten sound = record {
  sound = sound;
  same_level = record { draft = refl; level = refl; words = refl };
  dead = λ c g dead. dead;
  forwardings = λ p v positive forwarding. forwarding;
  known = λ O v positive known. known;
  under_way = λ O under_way. stays.rewritten O T b x row next under_way row_is rewritten sound;
}

-- A vector whose resolved form is deleted vanishes.
module _ (space : ForwardingsAreASpace) (keep : DeathsKeep) (stays : StaysUnderWay) (T new : ActionTable) (v w : Row) (sound : IsSound T) (new_sound : IsSound new)
    (resolved : IsResolved (presented T).prime T.forwards v w) where
  abbrev p : ℕ
  p = (presented T).prime

  vanishes_of_zero : w ≡ [] → new ≡ T → Vanishes T v None new
  vanishes_of_zero zero same =
      let nothing : IsForwarding p T.forwards w = subst (λ u. IsForwarding p T.forwards u) (sym zero) (space p T.forwards (positive_prime T sound)).empty in
      let forwarding : IsForwarding p T.forwards v = (space p T.forwards (positive_prime T sound)).chained v w resolved.forwarding nothing in
      record {
        continues = subst (λ N. Continues T N) (sym same) (Continues-refl T sound);
        forwarding = subst (λ N. IsForwarding p N.forwards v) (sym same) forwarding;
        same = λ none. same;
        dead = tt;
      }

  vanishes_by_death : (id : ℕ) (f : Row) → IsDrawnFrom p w id f → new ≡ with_forward T id f → Vanishes T v (Some id) new
  vanishes_by_death id f drawn new_is =
      let live : IsLive T id = All-head (λ (t : ℕ × ℕ). IsLive T t.0) (id, drawn.coefficient) drawn.others (subst (λ u. All (λ t. IsLive T t.0) u) drawn.first resolved.live) in
      let positive : 0 < p = positive_prime T sound in
      let died : IsForwarding p (set T.forwards id (Some f)) w = keep.vector p T.forwards id f w positive live drawn in
      let rest : IsForwarding p (set T.forwards id (Some f)) (difference p v w) = keep.forwardings p T.forwards id f (difference p v w) positive live resolved.forwarding in
      let forwarding : IsForwarding p (set T.forwards id (Some f)) v = (space p (set T.forwards id (Some f)) positive).chained v w rest died in
      record {
        continues = subst (λ N. Continues T N) (sym new_is) (Continues-death keep stays T id f live (subst IsSound new_is new_sound));
        forwarding = subst (λ N. IsForwarding p N.forwards v) (sym new_is) forwarding;
        same = λ none. cc;
        dead = (live, (f, new_is));
      }

  pub vanishes : (died : Option ℕ) → (IsNone died ↔ (w ≡ [])) → (IsNone died → new ≡ T) → IfSome died (λ id. (f : Row) × IsDrawnFrom p w id f × (new ≡ with_forward T id f)) → Vanishes T v died new
  vanishes None zero same dead = vanishes_of_zero (zero.0 refl) (same refl)
  vanishes (Some id) zero same dead = vanishes_by_death id dead.0 dead.1 dead.2

-- the id that died is dead
pub dead_there : (T new : ActionTable) (v : Row) (id : ℕ) → Vanishes T v (Some id) new → IsDead new id
dead_there T new v id vanishes =
    let f : Row = vanishes.dead.1.0 in
    (f, subst (λ (N : ActionTable). HasForward N.forwards id f) (sym vanishes.dead.1.1) (HasForward-new T.forwards id f vanishes.dead.0))

-- the parent of an id has a row at its letter
module _ (adds : ReachAddsUp) (T : ActionTable) (sound : IsSound T) (id parent letter : ℕ) (dead : IsDead T id) (origin : IsOriginOf T.words id (Child parent letter) (word_at T id)) where
  id_within : id < length T.words
  id_within = omega (arith, slice_get_within T.forwards id (Some dead.0) dead.1, sound.one_forward_each)

  pub parent_within : parent < length T.words
  unfolding IsOriginOf
  parent_within = omega (arith, id_within, origin.0)

  pub parent_due : IsDue T parent letter
  unfolding IsOriginOf letters
  parent_due =
      let word = sound.words id (generator 0) id_within in
      let is : word_at T id ≡ times (word_at T parent) letter = origin.1 in
      let is_word : IsWord (presented T) (times (word_at T parent) letter) = subst (IsWord (presented T)) is word.0 in
      let reaches : reach (presented T) (times (word_at T parent) letter) ≡ reach (presented T) (word_at T parent) + step (presented T) letter = (adds (presented T)).1 (word_at T parent) letter in
      let same : reach (presented T) (word_at T id) ≡ reach (presented T) (times (word_at T parent) letter) = ap (reach (presented T)) is in
      (parent_within, All-contains (λ x. x < letter_count (presented T)) (letters (word_at T parent) ++ letter ∷ []) letter is_word.1 (Contains-push (letters (word_at T parent)) letter), omega (arith, word.1, same, reaches))
