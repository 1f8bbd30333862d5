-- A table that names live ids alone, without its dead ids; and one that has none.
use Rattle.std.proofs.Common.{◌≡◌, ℕ, zero, suc, ◌<◌, ◌≤◌, Some, None, List, [], ◌∷◌, length, map, take, get_or, All, refl, sym, ap, ap₂, subst, ◌∙◌, arith}
use Rattle.std.specs.Prelude.{Option, slice_get}
use Rattle.std.specs.Option.{option_map}
use Rattle.std.proofs.Math.ListN.{get_or-map}
use Rattle.std.proofs.lemmas.List.{get_or_past}
use Rattle.std.proofs.lemmas.List.Elements.{All-head, All-tail, All-map}
use Rattle.std.proofs.lemmas.Option.{slice_get-map, slice_get-get_or, slice_get_within, get_or_from_slice_get}
use Rattle.ve_theory.specs.Words.{Word}
use Rattle.ve_theory.specs.Answers.{Row, IsRow}
use Rattle.ve_table.specs.Tables.{ActionTable, presented, row_at, IsLive, of_live, live_words, live_below}
use Rattle.ve_table.specs.Sound.{IsSound, NamesLiveIds, HasLiveIds}
use Rattle.ve_table.specs.Changes.{renumbered, without_dead}
use Rattle.ve_machine.specs.Forwards.{Forwards, IsResolved, AreLive}
use Rattle.ve_machine.specs.Finished.{IsPacked}
use Rattle.ve_machine.specs.Laws.{ForwardingsAreASpace}
use Rattle.ve_pack.specs.Packing.{IsPacking, IsPartlyResolved}
use Rattle.ve_machine.proofs.Forwardings.{positive_prime}
use Rattle.ve_pack.proofs.Resolved.{resolved_itself, resolved_where_live}

-- how many live ids are below b
abbrev number : {Y : Type 0} → Forwards → List Y → ℕ → ℕ
number fs ys b = length (of_live (take b fs) ys)

-- the number of a live id finds what the id has
number_finds : {X Y : Type 0} (fs : Forwards) (xs : List X) (ys : List Y) (b : ℕ) (d : X) → length fs ≤ length ys → slice_get fs b ≡ Some None → get_or (of_live fs xs) (number fs ys b) d ≡ get_or xs b d
unfolding of_live
number_finds [] xs ys b d le live = absurd cc
number_finds (f ∷ fs) xs [] b d le live = absurd (omega arith)
number_finds (f ∷ fs) [] (y ∷ ys) b d le live = get_or_past [] (number (f ∷ fs) (y ∷ ys) b) d (omega arith) ∙ sym (get_or_past [] b d (omega arith))
number_finds (None ∷ fs) (x ∷ xs) (y ∷ ys) zero d le live = refl
number_finds (Some v ∷ fs) (x ∷ xs) (y ∷ ys) zero d le live = absurd cc
number_finds (None ∷ fs) (x ∷ xs) (y ∷ ys) (suc b) d le live = number_finds fs xs ys b d (omega arith) live
number_finds (Some v ∷ fs) (x ∷ xs) (y ∷ ys) (suc b) d le live = number_finds fs xs ys b d (omega arith) live

row_kept : (T : ActionTable) (b x : ℕ) → IsSound T → IsLive T b → row_at (without_dead T) (live_below T b) x ≡ option_map (renumbered T) (row_at T b x)
row_kept T b x sound live =
    ap (λ l. get_or l x None) (get_or-map (map (option_map (renumbered T))) (of_live T.forwards T.rows) (live_below T b) [])
    ∙ get_or-map (option_map (renumbered T)) (get_or (of_live T.forwards T.rows) (live_below T b) []) x None
    ∙ ap (λ l. option_map (renumbered T) (get_or l x None)) (number_finds T.forwards T.rows T.words b [] (omega (arith, sound.one_forward_each)) live)

module _ (S T : ActionTable) (space : ForwardingsAreASpace) (sound : IsSound S) (also : IsSound T) (part : IsPartlyResolved S T) (names : NamesLiveIds T) where
  -- the forwards and words of both are the same
  moved : (P : Forwards → List Word → Type 0) → P T.forwards T.words → P S.forwards S.words
  moved P holds = subst (λ fs. P fs S.words) part.forwards (subst (λ ws. P T.forwards ws) part.words holds)

  pub packed_by_dropping : IsPacking S (without_dead T)
  packed_by_dropping = record {
    draft = part.draft;
    level = part.level;
    words = ap₂ (λ fs ws. of_live fs ws) part.forwards part.words;
    packed = All-map (λ f. f ≡ None) (λ (w : Word). None) (live_words T) (λ k d lt. refl);
    rows = λ b x v live found.
        let next = part.rows b x v live found in
        let is_live : IsLive T b = subst (λ f. slice_get f b ≡ Some None) (sym part.forwards) live in
        let live_ids : AreLive S.forwards next.0 = subst (λ f. AreLive f next.0) part.forwards (names.rows b x next.0 is_live next.1) in (
          renumbered S next.0,
          moved (λ fs ws. row_at (without_dead T) (number fs ws b) x ≡ Some (map (λ t. (number fs ws t.0, t.1)) next.0))
              (row_kept T b x also is_live ∙ ap (option_map (renumbered T)) next.1),
          (next.0, resolved_where_live space (presented S).prime S.forwards (positive_prime S sound) v next.0 (sound.rows b x v found).stands.row.0 next.2 live_ids, refl),
        );
    images = λ i v found.
        let next = part.images i v found in
        let live : HasLiveIds T next.0 = image_live i next.0 next.1 in
        let live_ids : AreLive S.forwards next.0 = subst (λ f. AreLive f next.0) part.forwards live in (
          renumbered S next.0,
          moved (λ fs ws. slice_get (without_dead T).images i ≡ Some (map (λ t. (number fs ws t.0, t.1)) next.0))
              (slice_get-map (renumbered T) T.images i ∙ ap (option_map (renumbered T)) next.1),
          (next.0, resolved_where_live space (presented S).prime S.forwards (positive_prime S sound) v next.0 (sound.images i v found).stands.row.0 next.2 live_ids, refl),
        );
  }
    where
      image_live : (i : ℕ) (w : Row) → slice_get T.images i ≡ Some w → HasLiveIds T w
      image_live i w found = subst (HasLiveIds T) (get_or_from_slice_get T.images i w w found) (names.images i w (slice_get_within T.images i w found))

-- no id is dead

all_live : {X : Type 0} (fs : Forwards) (xs : List X) → All (λ f. f ≡ None) fs → length fs ≡ length xs → of_live fs xs ≡ xs
unfolding of_live
all_live [] [] none same = refl
all_live [] (x ∷ xs) none same = absurd (omega arith)
all_live (f ∷ fs) [] none same = absurd (omega arith)
all_live (None ∷ fs) (x ∷ xs) none same = ap (λ l. x ∷ l) (all_live fs xs (All-tail (λ (f : Option Row). f ≡ None) None fs none) (omega arith))
all_live (Some v ∷ fs) (x ∷ xs) none same = absurd (let bad : Some v ≡ None = All-head (λ (f : Option Row). f ≡ None) (Some v) fs none in cc)

number_itself : {Y : Type 0} (fs : Forwards) (ys : List Y) (b : ℕ) → All (λ f. f ≡ None) fs → length fs ≤ length ys → b ≤ length fs → number fs ys b ≡ b
unfolding of_live
number_itself fs ys zero none le within = refl
number_itself [] ys (suc b) none le within = absurd (omega arith)
number_itself (f ∷ fs) [] (suc b) none le within = absurd (omega arith)
number_itself (None ∷ fs) (y ∷ ys) (suc b) none le within = ap suc (number_itself fs ys b (All-tail (λ (f : Option Row). f ≡ None) None fs none) (omega arith) (omega arith))
number_itself (Some v ∷ fs) (y ∷ ys) (suc b) none le within = absurd (let bad : Some v ≡ None = All-head (λ (f : Option Row). f ≡ None) (Some v) fs none in cc)

module _ (T : ActionTable) (sound : IsSound T) (packed : IsPacked T) where
  pub words_packed : live_words T ≡ T.words
  words_packed = all_live T.forwards T.words packed sound.one_forward_each

  below_itself : (b : ℕ) → b ≤ length T.words → live_below T b ≡ b
  below_itself b within = number_itself T.forwards T.words b packed (omega (arith, sound.one_forward_each)) (omega (arith, within, sound.one_forward_each))

  pub live_packed : (b : ℕ) → b < length T.words → IsLive T b
  live_packed b within =
      let inside : b < length T.forwards = omega (arith, within, sound.one_forward_each) in
      slice_get-get_or T.forwards b None inside ∙ ap Some (packed b None inside)

  renumbered_itself : (v : Row) → All (λ t. t.0 < length T.words) v → renumbered T v ≡ v
  renumbered_itself [] within = refl
  renumbered_itself (t ∷ v) within =
      ap₂ (λ n l. (n, t.1) ∷ l) (below_itself t.0 (omega (arith, All-head (λ (s : ℕ × ℕ). s.0 < length T.words) t v within)))
      (renumbered_itself v (All-tail (λ (s : ℕ × ℕ). s.0 < length T.words) t v within))

  pub packing_itself : ForwardingsAreASpace → IsPacking T T
  packing_itself space = record {
    draft = refl;
    level = refl;
    words = sym words_packed;
    packed = packed;
    rows = λ b x v live found. (
      v,
      ap (λ n. row_at T n x) (below_itself b (omega (arith, slice_get_within T.forwards b None live, sound.one_forward_each))) ∙ found,
      (v, itself v (sound.rows b x v found).stands.row, sym (renumbered_itself v (sound.rows b x v found).stands.row.1)),
    );
    images = λ i v found. (v, found, (v, itself v (sound.images i v found).stands.row, sym (renumbered_itself v (sound.images i v found).stands.row.1)));
  }
    where
      itself : (v : Row) → IsRow (presented T).prime (length T.words) v → IsResolved (presented T).prime T.forwards v v
      itself v row = resolved_itself space (presented T).prime T.forwards (positive_prime T sound) v row.0 (λ k d lt. live_packed (get_or v k d).0 (row.1 k d lt))
