-- Finished tables stay finished where rows and images are resolved and dead ids dropped.
use Rattle.std.proofs.Common.{◌≡◌, ℕ, zero, suc, ◌-◌, ◌<◌, ◌⊎◌, inl, inr, Some, None, List, [], ◌∷◌, length, map, take, get_or, All, Contains, refl, sym, ap, subst, ◌∙◌, arith}
use Rattle.std.specs.Prelude.{Option, slice_get, slice_index_or}
use Rattle.std.specs.Option.{option_map}
use Rattle.std.proofs.lemmas.Bool.{cases_order}
use Rattle.std.proofs.lemmas.Option.{same_Some, none-some, slice_get-map, slice_get_within, get_or_from_slice_get}
use Rattle.std.proofs.lemmas.List.{get_or_default, get_or_past}
use Rattle.std.proofs.lemmas.List.Elements.{All-map, All-weaker}
use Rattle.ve_theory.specs.Words.{generator, times}
use Rattle.ve_theory.specs.Presentations.{Presentation, before}
use Rattle.ve_theory.specs.Levels.{IsNormal}
use Rattle.ve_theory.specs.Answers.{Row, image_row, matrix_row}
use Rattle.ve_theory.specs.Laws.{FinishedLevelsSettle}
use Rattle.ve_theory.proofs.Sums.{SameWeights-sym, SameWeights-trans}
use Rattle.ve_theory.proofs.Orders.{before_irreflexive}
use Rattle.ve_theory.proofs.LevelBounds.{IsNormal-prefix}
use Rattle.ve_table.specs.Tables.{ActionTable, presented, word_at, row_at, IsLive, of_live, live_words, live_below}
use Rattle.ve_table.specs.Sound.{IsSound, NamesLiveIds, HasLiveIds}
use Rattle.ve_table.specs.Changes.{with_row, with_image, without_dead, renumbered}
use Rattle.ve_table.proofs.Killing.{read_set}
use Rattle.ve_table.proofs.Setting.{row_written}
use Rattle.ve_table.proofs.LiveIds.{alive, alive-none, alive-some}
use Rattle.ve_table.proofs.Dropping.{get_or-map_default, some_back, number_is, number_in, word_kept, id_within, reduced_kept}
use Rattle.ve_machine.specs.Forwards.{IsResolved}
use Rattle.ve_machine.specs.Finished.{IsFinishedTable, IsPacked, PrefixesAreLive}
use Rattle.ve_machine.specs.Laws.{StaysFinished}
use Rattle.ve_machine.proofs.Forwardings.{positive_prime, IsForwarding-alike, IsForwarding-scaled, forwarded_on, nothing_forwarded}
use Rattle.ve_machine.proofs.KeptKnown.{turned_same}
use Rattle.ve_machine.proofs.CarriedRows.{carried_alive}
use Rattle.ve_machine.proofs.LiveActions.{number, renumbered_sum}
use Rattle.ve_machine.proofs.SettledSteps.{resolved_settled}
use Rattle.ve_machine.proofs.PackedLevels.{packed_words, packed_number, packed_live, packed_renumbered}
use Rattle.ve_machine.proofs.LiveLevels.{id_of}

-- live words without their last letters

prefixes_live : FinishedLevelsSettle → (T : ActionTable) → IsFinishedTable T → PrefixesAreLive T
prefixes_live settle T done a b x live word lt =
    let P : Presentation = presented T in
    let normal = (settle P T.level done.action done.sound.valid.presentation done.finished).normal in
    let basis : done.action.basis ≡ live_words T = done.of_table.basis in
    let here : get_or done.action.basis (live_below T b) (generator 0) ≡ times (word_at T a) x =
    ap (λ ws. get_or ws (live_below T b) (generator 0)) basis ∙ word_kept T b (generator 0) done.sound.one_forward_each live ∙ word in
    let longer : IsNormal P T.level (times (word_at T a) x) =
    subst (IsNormal P T.level) here (normal.only (live_below T b) (generator 0) (subst (λ ws. live_below T b < length ws) (sym basis) (number_in T b done.sound.one_forward_each live))) in
    let found : Contains (live_words T) (word_at T a) = subst (λ ws. Contains ws (word_at T a)) basis (normal.every (word_at T a) (IsNormal-prefix P T.level (word_at T a) x longer)) in
    let c = id_of T [] [] done.sound found.0 found.1 in
    let there : word_at T c.0 ≡ word_at T a =
    sym (word_kept T c.0 (generator 0) done.sound.one_forward_each c.1) ∙ ap (λ n. get_or (live_words T) n (generator 0)) c.2 ∙ get_or_default (live_words T) found.0 (generator 0) (word_at T a) found.1 ∙ found.2 in
    subst (IsLive T) (same_id c.0 there c.3 (cases_order c.0 a)) c.1
  where
    same_id : (c : ℕ) → word_at T c ≡ word_at T a → c < length T.words → (c ≡ a) ⊎ ((c < a) ⊎ (a < c)) → c ≡ a
    same_id c there within (inl same) = same
    same_id c there within (inr (inl less)) =
        absurd (before_irreflexive (presented T) (word_at T a) (subst (λ w. before (presented T) w (word_at T a)) there (done.sound.rising c a (generator 0) less lt)))
    same_id c there within (inr (inr less)) =
        absurd (before_irreflexive (presented T) (word_at T a) (subst (λ w. before (presented T) (word_at T a) w) there (done.sound.rising a c (generator 0) less within)))

-- resolved rows and images

-- two resolved forms are such of each other
resolved_again : (T : ActionTable) (v w u : Row) → IsSound T → IsResolved (presented T).prime T.forwards v w → IsResolved (presented T).prime T.forwards v u → IsResolved (presented T).prime T.forwards w u
resolved_again T v w u sound one other = record {
  reduced = other.reduced;
  live = other.live;
  forwarding = forwarded_on (presented T).prime T.forwards w v u (positive_prime T sound)
      (IsForwarding-alike (presented T).prime T.forwards (turned_same (presented T).prime v w (positive_prime T sound))
      (IsForwarding-scaled (presented T).prime T.forwards ((presented T).prime - 1) one.forwarding))
      other.forwarding;
}

rows_resolved : (T : ActionTable) (b x : ℕ) (v w : Row) → IsFinishedTable T → row_at T b x ≡ Some v → IsResolved (presented T).prime T.forwards v w → IsSound (with_row T b x w) → IsFinishedTable (with_row T b x w)
rows_resolved T b x v w done row resolved sound = record {
  sound = sound;
  action = done.action;
  of_table = record { basis = done.of_table.basis; images = done.of_table.images; matrices = matrices };
  finished = done.finished;
}
  where
    matrices : (c y : ℕ) (u : Row) → IsLive T c → row_at (with_row T b x w) c y ≡ Some u
        → (r : Row) × IsResolved (presented T).prime T.forwards u r × (◌≡◌ {A = Row} (slice_index_or (slice_index_or done.action.matrices y []) (live_below T c) []) (renumbered T r))
    matrices c y u live found =
        elim (row_written T.rows b x c y w (rw row refl)) [
          | inl here ↦
              let form = done.of_table.matrices c y v live (ap (λ n. row_at T n y) (sym here.0) ∙ ap (row_at T b) (sym here.1) ∙ row) in
              (form.0, subst (λ u. IsResolved (presented T).prime T.forwards u form.0) (same_Some w u (sym here.2 ∙ found)) (resolved_again T v w form.0 done.sound resolved form.1), form.2)
          | inr there ↦ done.of_table.matrices c y u live (sym there ∙ found)
        ]

images_resolved : (T : ActionTable) (i : ℕ) (v w : Row) → IsFinishedTable T → slice_get T.images i ≡ Some v → IsResolved (presented T).prime T.forwards v w → IsSound (with_image T i w) → IsFinishedTable (with_image T i w)
images_resolved T i v w done image resolved sound = record {
  sound = sound;
  action = done.action;
  of_table = record { basis = done.of_table.basis; images = images; matrices = done.of_table.matrices };
  finished = done.finished;
}
  where
    images : (j : ℕ) (u : Row) → slice_get (with_image T i w).images j ≡ Some u
        → (r : Row) × IsResolved (presented T).prime T.forwards u r × (◌≡◌ {A = Row} (slice_index_or done.action.images j []) (renumbered T r))
    images j u found =
        elim (read_set T.images i j w u found) [
          | inl here ↦
              let form = done.of_table.images j v (ap (slice_get T.images) (sym here.0) ∙ image) in
              (form.0, subst (λ u. IsResolved (presented T).prime T.forwards u form.0) here.1 (resolved_again T v w form.0 done.sound resolved form.1), form.2)
          | inr there ↦ done.of_table.images j u there
        ]

-- dead ids dropped

-- a live id's number finds what the id has, where there is such a thing
live_entry : {X : Type 0} (fs : List (Option Row)) (xs : List X) (b : ℕ) (d : X) → slice_get fs b ≡ Some None → get_or (of_live fs xs) (alive (take b fs)) d ≡ get_or xs b d
unfolding of_live
live_entry [] xs b d live = absurd (none-some None live)
live_entry (f ∷ fs) [] b d live = get_or_past [] (alive (take b (f ∷ fs))) d (omega arith) ∙ sym (get_or_past [] b d (omega arith))
live_entry (None ∷ fs) (x ∷ xs) zero d live = refl
live_entry (Some v ∷ fs) (x ∷ xs) zero d live = absurd (none-some v (same_Some None (Some v) (sym live)))
live_entry (None ∷ fs) (x ∷ xs) (suc b) d live = ap (λ n. get_or (x ∷ of_live fs xs) n d) (alive-none (take b fs)) ∙ live_entry fs xs b d live
live_entry (Some v ∷ fs) (x ∷ xs) (suc b) d live = ap (λ n. get_or (of_live fs xs) n d) (alive-some v (take b fs)) ∙ live_entry fs xs b d live

module _ (T : ActionTable) (done : IsFinishedTable T) (names : NamesLiveIds T) (sound : IsSound (without_dead T)) where
  abbrev p : ℕ
  p = (presented T).prime

  packed : IsPacked (without_dead T)
  packed = All-map (λ (o : Option Row). o ≡ None) (λ _. None) (live_words T) (λ k d lt. refl)

  row_there_still : (b x : ℕ) → IsLive T b → row_at (without_dead T) (live_below T b) x ≡ option_map (renumbered T) (row_at T b x)
  row_there_still b x live =
      let there : get_or (of_live T.forwards T.rows) (live_below T b) [] ≡ get_or T.rows b [] =
      ap (λ n. get_or (of_live T.forwards T.rows) n []) (number_is T b done.sound.one_forward_each) ∙ live_entry T.forwards T.rows b [] live in
      ap (λ l. get_or l x None) (get_or-map_default (map (option_map (renumbered T))) (of_live T.forwards T.rows) (live_below T b) [] ∙ ap (map (option_map (renumbered T))) there)
      ∙ get_or-map_default (option_map (renumbered T)) (get_or T.rows b []) x None

  numbers_within : (w : Row) → HasLiveIds T w → All (λ t. t.0 < length (live_words T)) (renumbered T w)
  numbers_within w live = All-map (λ t. t.0 < length (live_words T)) (λ t. (live_below T t.0, t.1)) w (λ k d lt. number_in T (get_or w k d).0 done.sound.one_forward_each (live k d lt))

  -- what is numbered anew has the resolved form numbered anew
  dropped_form : (v w row : Row) → HasLiveIds T v → IsResolved p T.forwards v w → row ≡ renumbered T w
      → (r : Row) × IsResolved p (without_dead T).forwards (renumbered T v) r × (row ≡ renumbered (without_dead T) r)
  dropped_form v w row live resolved row_is = (
    renumbered T w,
    record {
      reduced = reduced_kept T p w done.sound.one_forward_each resolved.live resolved.reduced;
      live = All-weaker (λ (t : ℕ × ℕ). t.0 < length (live_words T)) (λ (t : ℕ × ℕ). slice_get (without_dead T).forwards t.0 ≡ Some None)
          (λ t lt. packed_live (without_dead T) packed sound t.0 lt) (renumbered T w) (numbers_within w resolved.live);
      forwarding = nothing_forwarded p (without_dead T).forwards (renumbered T v) (renumbered T w) (positive_prime T done.sound)
          (SameWeights-trans (renumbered_sum p T v)
          (SameWeights-trans (SameWeights-sym (carried_alive p T.forwards (number T) (length T.forwards) v live)) (resolved_settled T done.sound v w resolved)));
    },
    row_is ∙ sym (packed_renumbered (without_dead T) packed sound (renumbered T w) (numbers_within w resolved.live)),
  )

  dropped_image : (i : ℕ) (u : Row) → slice_get (without_dead T).images i ≡ Some u
      → (r : Row) × IsResolved p (without_dead T).forwards u r × (image_row done.action i ≡ renumbered (without_dead T) r)
  dropped_image i u found =
      let old = some_back (renumbered T) (slice_get T.images i) u (sym (slice_get-map (renumbered T) T.images i) ∙ found) in
      let live : HasLiveIds T old.0 = subst (HasLiveIds T) (get_or_from_slice_get T.images i old.0 old.0 old.1) (names.images i old.0 (slice_get_within T.images i old.0 old.1)) in
      let form = done.of_table.images i old.0 old.1 in
      subst (λ u. (r : Row) × IsResolved p (without_dead T).forwards u r × (image_row done.action i ≡ renumbered (without_dead T) r)) old.2
      (dropped_form old.0 form.0 (image_row done.action i) live form.1 form.2)

  dropped_row : (n x : ℕ) (u : Row) → IsLive (without_dead T) n → row_at (without_dead T) n x ≡ Some u
      → (r : Row) × IsResolved p (without_dead T).forwards u r × (matrix_row done.action x (live_below (without_dead T) n) ≡ renumbered (without_dead T) r)
  dropped_row n x u live found =
      let inside : n < length (live_words T) = id_within (without_dead T) n sound.one_forward_each live in
      let b = id_of T [] [] done.sound n inside in
      let old = some_back (renumbered T) (row_at T b.0 x) u (sym (row_there_still b.0 x b.1) ∙ ap (λ m. row_at (without_dead T) m x) b.2 ∙ found) in
      let form = done.of_table.matrices b.0 x old.0 b.1 old.1 in
      let number : live_below (without_dead T) n ≡ live_below T b.0 = packed_number (without_dead T) packed sound n inside ∙ sym b.2 in
      subst (λ u. (r : Row) × IsResolved p (without_dead T).forwards u r × (matrix_row done.action x (live_below (without_dead T) n) ≡ renumbered (without_dead T) r)) old.2
      (dropped_form old.0 form.0 (matrix_row done.action x (live_below (without_dead T) n)) (names.rows b.0 x old.0 b.1 old.1) form.1
      (subst (λ m. matrix_row done.action x m ≡ renumbered T form.0) (sym number) form.2))

  dropped : IsFinishedTable (without_dead T)
  dropped = record {
    sound = sound;
    action = done.action;
    of_table = record { basis = done.of_table.basis ∙ sym (packed_words (without_dead T) packed sound); images = dropped_image; matrices = dropped_row };
    finished = done.finished;
  }

pub stays_finished : FinishedLevelsSettle → StaysFinished
stays_finished settle = record { rows = rows_resolved; images = images_resolved; dropped = dropped; prefixes = prefixes_live settle }
