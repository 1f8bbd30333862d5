-- The table of level 0.
use Rattle.std.proofs.Common.{◌≡◌, ℕ, zero, suc, ◌+◌, ◌*◌, ◌<◌, ◌≤◌, inl, inr, Some, None, List, [], ◌∷◌, ◌++◌, length, map, get_or, refl, sym, ap, ap₂, subst, ◌∙◌, arith}
use Rattle.std.specs.Prelude.{Option, All, slice_get}
use Rattle.std.specs.List.{range_with_len}
use Rattle.std.specs.Option.{unwrap_or}
use Rattle.std.specs.Vec.{vec_capacity}
use Rattle.std.proofs.lemmas.Bool.{cases_lt}
use Rattle.std.proofs.lemmas.Option.{slice_get_within, get_or_from_slice_get}
use Rattle.std.proofs.lemmas.List.{length-map, map_push, get_or_past, get_or-map, append_assoc, append-nil}
use Rattle.std.proofs.lemmas.List.Elements.{All-head, All-tail, All-map, All-push}
use Rattle.std.proofs.lemmas.List.FromFn.{get_or-map-range_with_len, length-map-range_with_len, map-range_with_len_more}
use Rattle.ve_theory.specs.Combinations.{unit}
use Rattle.ve_theory.specs.Words.{Word, generator, times, start, letters, word_length, word_weight, Weighted}
use Rattle.ve_theory.specs.Presentations.{Presentation, reach, step, letter_count, IsWord}
use Rattle.ve_theory.specs.Validity.{IsValid}
use Rattle.ve_theory.specs.Laws.{HasBounds}
use Rattle.ve_theory.specs.Answers.{Row}
use Rattle.ve_lemmas.proofs.Residues.{prime-large}
use Rattle.ve_lemmas.proofs.Weights.{reach-generator}
use Rattle.ve_lemmas.proofs.Words.{length-generator}
use Rattle.ve_pres.specs.Drafts.{Draft}
use Rattle.ve_table.specs.declared.origin.Origin.TheVariants.{Root}
use Rattle.ve_table.specs.declared.entry.Entry.{Entry}
use Rattle.ve_table.specs.Books.{spelled, words_after, words_of, IsOriginOf}
use Rattle.ve_table.specs.Tables.{word_at, of_live, live_words}
use Rattle.ve_table.specs.Sound.{IsSound, IsImageOf}
use Rattle.ve_table.specs.Changes.{opened}
use Rattle.ve_table.specs.Kept.{table_of, IsEntryOf, IsKept}
use Rattle.ve_table.specs.Rows.{listed}
use Rattle.ve_table.specs.Deaths.{forward_of, forwards_of}
use Rattle.ve_table.specs.Reaches.{AreReaches}
use Rattle.ve_table.specs.declared.table.Table.TheInside.{Inside}
use Rattle.ve_table.specs.Roots.{IsRootEntry, AreRoots}
use Rattle.ve_table.proofs.Deaths.{keeps_live}
use Rattle.ve_table.proofs.Entries.{tabled}
use Rattle.ve_table.proofs.Listed.{row_in, listed_is}
use Rattle.ve_table.proofs.Setting.{none_is_some}
use Rattle.ve_table.proofs.Units.{unit_vector}

-- one root more
pub root_more : (n : ℕ) (items : List Entry) (e : Entry) → AreRoots n items → e.origin ≡ Root n → IsRootEntry e → AreRoots (n + 1) (items ++ e ∷ [])
root_more n items e are origin is = record {
  origins = map_push (λ (e : Entry). e.origin) items e ∙ ap₂ (λ l o. l ++ o ∷ []) are.origins origin ∙ sym (map-range_with_len_more Root 0 n n (omega arith));
  each = All-push IsRootEntry items e are.each is;
}

root_words : (words : List Word) (ids : List ℕ) → words_after words (map Root ids) ≡ words ++ map generator ids
unfolding words_after spelled
root_words words [] = sym (append-nil words)
root_words words (i ∷ ids) = root_words (words ++ generator i ∷ []) ids ∙ append_assoc words (generator i ∷ []) (map generator ids)

pub same_map : {X Y Z : Type 0} (f : X → Z) (c : Z) (xs : List X) (ys : List Y) → length xs ≡ length ys → All (λ x. f x ≡ c) xs → map f xs ≡ map (λ _. c) ys
same_map f c [] [] same all = refl
same_map f c [] (y ∷ ys) same all = absurd (omega (arith, same))
same_map f c (x ∷ xs) [] same all = absurd (omega (arith, same))
same_map f c (x ∷ xs) (y ∷ ys) same all = ap₂ (λ z l. z ∷ l) (All-head (λ x. f x ≡ c) x xs all) (same_map f c xs ys (omega (arith, same)) (All-tail (λ x. f x ≡ c) x xs all))

pub no_row : {X Y : Type 0} (ids : List X) (names : List Y) (b x : ℕ) → row_in (map (λ _. map (λ _. None) names) ids) b x ≡ None
no_row [] names zero zero = refl
no_row [] names zero (suc x) = refl
no_row [] names (suc b) zero = refl
no_row [] names (suc b) (suc x) = refl
no_row (i ∷ ids) names zero x = none_in names x
  where
    empty : {Y : Type 0} → Y → Option Row
    empty y = None

    none_in : {Y : Type 0} (names : List Y) (x : ℕ) → get_or (map empty names) x None ≡ None
    none_in [] zero = refl
    none_in [] (suc x) = refl
    none_in (n ∷ names) zero = refl
    none_in (n ∷ names) (suc x) = none_in names x
no_row (i ∷ ids) names (suc b) x = no_row ids names b x

zero_at : (bounds : List ℕ) (x : ℕ) → All (λ bound. bound ≡ 0) bounds → get_or bounds x 0 ≡ 0
zero_at bounds x nothing = elim (cases_lt x (length bounds)) [ inl lt ↦ nothing x 0 lt | inr past ↦ get_or_past bounds x 0 past ]

pub opened_is : (draft : Draft) (items : List Entry) (bounds : List ℕ) (rows forwards images : List Row) → rows ≡ [] → All (λ bound. bound ≡ 0) bounds → AreRoots draft.presentation.generators items → images ≡ map unit (range_with_len 0 draft.presentation.generators)
    → tabled draft 0 images bounds rows forwards items ≡ opened draft
opened_is draft items bounds rows forwards images rows_are nothing are images_are =
    let ids : List ℕ = range_with_len 0 draft.presentation.generators in
    let names = draft.presentation.names in
    let same : length items ≡ length ids = sym (length-map items (λ (e : Entry). e.origin)) ∙ ap length are.origins ∙ length-map ids Root in
    let words : words_of (map (λ (e : Entry). e.origin) items) ≡ map generator ids = ap words_of are.origins ∙ root_words [] ids in
    let live : forwards_of forwards items ≡ map (λ _. None) ids =
    same_map (λ (e : Entry). forward_of forwards e.death) None items ids same (λ k d lt. ap (forward_of forwards) (are.each k d lt).live) in
    let lists : listed (length names) (length items) bounds [] ≡ map (λ _. map (λ _. None) names) ids =
    listed_is (length names) (length items) bounds [] (map no_rows ids) (length-map ids no_rows ∙ sym same)
    (All-map (λ (row : List (Option Row)). length row ≡ length names) no_rows ids (λ k d lt. length-map names empty))
    (λ b x letter. get_or_past [] (b * length names + x) [] (omega arith) ∙ sym (ap (λ o. unwrap_or o []) (no_row ids names b x)))
    (λ b x id letter. (
      λ some. absurd (none_is_some (row_in (map no_rows ids) b x) (no_row ids names b x) some),
      λ lt. absurd (omega (arith, lt, zero_at bounds x nothing)),
    )) in
    rw (words, live, rows_are, lists, images_are) refl
  where
    empty : List ℕ → Option Row
    empty name = None

    no_rows : ℕ → List (Option Row)
    no_rows i = map empty draft.presentation.names

-- all ids live
pub all_live : {X : Type 0} (fs : List (Option Row)) (xs : List X) → All (λ f. f ≡ None) fs → length fs ≡ length xs → of_live fs xs ≡ xs
unfolding of_live
all_live [] [] live same = refl
all_live [] (x ∷ xs) live same = absurd (omega (arith, same))
all_live (f ∷ fs) [] live same = absurd (omega (arith, same))
all_live (f ∷ fs) (x ∷ xs) live same = rw (All-head (λ f. f ≡ None) f fs live) (ap (λ l. x ∷ l) (all_live fs xs (All-tail (λ f. f ≡ None) f fs live) (omega (arith, same))))

pub nones : {X : Type 0} (ys : List X) → All (λ (f : Option Row). f ≡ None) (map (λ _. None) ys)
nones [] k d lt = absurd (omega arith)
nones (y ∷ ys) zero d lt = refl
nones (y ∷ ys) (suc k) d lt = nones ys k d (omega arith)

generator_before : (weights : List ℕ) (i j : ℕ) → i < j → Weighted weights (generator i) (generator j)
unfolding Weighted word_weight start
generator_before weights i j lt = inr (refl, inl lt)

generator_word : (P : Presentation) (i : ℕ) → i < P.generators → IsWord P (generator i)
unfolding start letters
generator_word P i lt = (lt, λ k d le. absurd (omega arith))

pub sound_opened : (draft : Draft) → IsValid draft.presentation → HasBounds draft.presentation → IsSound (opened draft)
sound_opened draft valid bounds = record {
  valid = valid;
  words = λ k d lt. let in' : k < P.generators = omega (arith, lt, count) in rw (at k d in') (generator_word P k in', omega (arith, reach-generator P k));
  rising = λ i j d lt within.
      let in' : j < P.generators = omega (arith, within, count) in
      let before' : i < P.generators = omega (arith, in', lt) in
      rw (at i d before', at j d in') (generator_before P.weights i j lt);
  prefixes = λ w x found. absurd (not_times found.0 x w (omega (arith, found.1, count)) found.2);
  one_forward_each = length-map ids no_forward ∙ sym (length-map ids generator);
  one_row_list_each = length-map ids no_rows ∙ sym (length-map ids generator);
  one_place_each = All-map (λ (row : List (Option Row)). length row ≡ length P.names) no_rows ids (λ k d lt. length-map P.names empty);
  one_image_each = length-map-range_with_len unit 0 P.generators;
  forwards = λ b v found. absurd (not_dead b v found);
  due = λ b x. (λ some. absurd (none_is_some _ (no_row ids P.names b x) some), λ due. absurd (not_due b x due.0 due.2));
  rows = λ b x v found. absurd (not_some v (sym (no_row ids P.names b x) ∙ found));
  images = λ i v found.
      let in' : i < P.generators = omega (arith, slice_get_within (map unit ids) i v found, length-map-range_with_len unit 0 P.generators) in
      let v_is : unit i ≡ v = sym (get_or-map-range_with_len unit 0 P.generators i i [] in' (omega arith)) ∙ get_or_from_slice_get (map unit ids) i v [] found in
      subst (λ v. IsImageOf (opened draft) i v) v_is (unit_vector (opened draft) i (generator i) (prime-large P.prime valid.presentation.field) (omega (arith, in', count)) (at i (generator 0) in'));
}
  where
    P : Presentation
    P = draft.presentation

    ids : List ℕ
    ids = range_with_len 0 P.generators

    count : length (map generator ids) ≡ P.generators
    count = length-map-range_with_len generator 0 P.generators

    at : (k : ℕ) (d : Word) → k < P.generators → get_or (map generator ids) k d ≡ generator k
    at k d lt = get_or-map-range_with_len generator 0 P.generators k k d lt (omega arith)

    not_some : (v : Row) → None ≡ Some v → ⊥
    not_some v bad = cc

    no_forward : ℕ → Option Row
    no_forward i = None

    empty : List ℕ → Option Row
    empty name = None

    no_rows : ℕ → List (Option Row)
    no_rows i = map empty P.names

    not_times : (k x : ℕ) (w : Word) → k < P.generators → get_or (map generator ids) k (times w x) ≡ times w x → ⊥
    not_times k x w lt is = let bad : generator k ≡ times w x = sym (at k (times w x) lt) ∙ is in cc

    not_dead : (b : ℕ) (v : Row) → slice_get (map (λ _. None) ids) b ≡ Some (Some v) → ⊥
    not_dead b v found = let none = nones ids b None (slice_get_within _ b (Some v) found) in let some = get_or_from_slice_get (map (λ _. None) ids) b (Some v) None found in not_some v (sym none ∙ some)

    not_due : (b x : ℕ) → b < length (map generator ids) → reach P (word_at (opened draft) b) + step P x ≤ 0 → ⊥
    not_due b x lt le = let positive = bounds.positive x in omega (arith, le, positive)

root_entry : (draft : Draft) (items : List Entry) → AreRoots draft.presentation.generators items → (b : ℕ) (e : Entry) → slice_get items b ≡ Some e → IsEntryOf (opened draft) b e
unfolding IsOriginOf
root_entry draft items are b e found =
    let count : ℕ = draft.presentation.generators in
    let same : length items ≡ count = sym (length-map items (λ (e : Entry). e.origin)) ∙ ap length are.origins ∙ length-map-range_with_len Root 0 count in
    let within : b < count = omega (arith, same, slice_get_within items b e found) in
    let inside : b < length items = slice_get_within items b e found in
    let here : get_or items b e ≡ e = get_or_from_slice_get items b e e found in
    let origin : e.origin ≡ Root b =
    ap (λ (e : Entry). e.origin) (sym here) ∙ sym (get_or-map (λ (e : Entry). e.origin) items b e (Root 0) inside)
    ∙ ap (λ l. get_or l b (Root 0)) are.origins ∙ get_or-map-range_with_len Root 0 count b b (Root 0) within (omega arith) in
    let word : word_at (opened draft) b ≡ generator b = get_or-map-range_with_len generator 0 count b b (generator 0) within (omega arith) in
    let is : IsRootEntry e = subst IsRootEntry here (are.each b e inside) in
    record {
      origin = rw (origin, word) refl;
      own_reach = is.own_reach ∙ sym (reach-generator draft.presentation b) ∙ ap (reach draft.presentation) (sym word);
      own_length = is.own_length ∙ sym (length-generator b) ∙ ap word_length (sym word);
    }

pub opened_from : (t : Inside) → t.level ≡ 0 → t.rows.items ≡ [] → All (λ bound. bound ≡ 0) t.bounds.items → AreRoots t.presentation.presentation.generators t.entries.items
    → t.images.items ≡ map unit (range_with_len 0 t.presentation.presentation.generators) → table_of t ≡ opened t.presentation
opened_from t level rows nothing are images =
    ap (λ k. tabled t.presentation k t.images.items t.bounds.items t.rows.items t.forwards.items t.entries.items) level
    ∙ opened_is t.presentation t.entries.items t.bounds.items t.rows.items t.forwards.items t.images.items rows nothing are images

pub kept_opened : (t : Inside) → t.level ≡ 0 → t.rows.items ≡ [] → length t.bounds.items ≡ letter_count t.presentation.presentation → All (λ bound. bound ≡ 0) t.bounds.items → AreRoots t.presentation.presentation.generators t.entries.items
    → t.images.items ≡ map unit (range_with_len 0 t.presentation.presentation.generators) → t.live ≡ t.presentation.presentation.generators → t.forwards.items ≡ [] → vec_capacity t.forwards ≡ t.presentation.presentation.generators → AreReaches t.presentation.presentation t.reaches
    → IsValid t.presentation.presentation → HasBounds t.presentation.presentation → IsKept t
kept_opened t level rows letters nothing are images live none room reaches valid bounds =
    let count : ℕ = t.presentation.presentation.generators in
    let same : table_of t ≡ opened t.presentation = opened_from t level rows nothing are images in
    let ids : length t.entries.items ≡ count = sym (length-map t.entries.items (λ (e : Entry). e.origin)) ∙ ap length are.origins ∙ length-map-range_with_len Root 0 count in
    let live_are : live_words (opened t.presentation) ≡ (opened t.presentation).words =
    all_live (opened t.presentation).forwards (opened t.presentation).words (nones (range_with_len 0 count)) (sound_opened t.presentation valid bounds).one_forward_each in
    record {
      sound = subst IsSound (sym same) (sound_opened t.presentation valid bounds);
      entries = λ b e found. subst (λ T. IsEntryOf T b e) (sym same) (root_entry t.presentation t.entries.items are b e found);
      count = omega (arith, ids, valid.generators.1);
      few_places = omega (arith, ap length rows);
      places = λ b x letter lt. absurd (omega (arith, lt, zero_at t.bounds.items x nothing));
      rest = λ b x letter past. get_or_past t.rows.items (b * letter_count t.presentation.presentation + x) [] (omega (arith, ap length rows));
      one_bound_each = letters;
      bounds = λ k d lt. omega (arith, nothing k d lt);
      live_count = live ∙ sym (length-map-range_with_len generator 0 count) ∙ ap length (sym live_are) ∙ ap (λ T. length (live_words T)) (sym same);
      own_forwards = keeps_live t.entries.items t.live t.forwards (λ k d lt. (are.each k d lt).live) none (omega (arith, live, ids)) (omega (arith, room, ids));
      own_reaches = reaches;
    }
