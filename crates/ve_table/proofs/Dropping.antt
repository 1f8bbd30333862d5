-- The live ids alone, numbered anew.
use Rattle.std.proofs.Common.{◌≡◌, ℕ, zero, suc, ◌+◌, ◌<◌, ◌≤◌, ◌⊎◌, inl, inr, Some, None, List, [], ◌∷◌, ◌++◌, length, map, take, get_or, refl, sym, ap, ap₂, subst, ◌∙◌, arith}
use Rattle.std.specs.Prelude.{Option, All, IsSome, slice_get, ◌↔◌}
use Rattle.std.specs.Option.{is_some, option_map}
use Rattle.std.proofs.lemmas.Bool.{cases_lt}
use Rattle.std.proofs.lemmas.Option.{slice_get_within, slice_get-map, get_or_from_slice_get}
use Rattle.std.proofs.lemmas.List.{length-map, length-take, get_or_past, get_or_default}
use Rattle.std.proofs.lemmas.List.Elements.{All-nil, All-cons, All-head, All-tail, All-map}
use Rattle.ve_theory.specs.Combinations.{unit, scaled, extended, AllBefore, IsReduced, difference}
use Rattle.ve_theory.specs.Words.{Word, generator, times}
use Rattle.ve_theory.specs.Presentations.{letter_count, reach, step, before, IsWord}
use Rattle.ve_theory.specs.Derivations.{DerivedWithin}
use Rattle.ve_theory.specs.Answers.{Row, IsNotAfter}
use Rattle.ve_table.specs.Tables.{ActionTable, presented, word_at, row_at, element_of, IsLive, IsDue, of_live, live_words, live_below}
use Rattle.ve_table.specs.Sound.{IsSound, IsVectorOf, IsRowOf, IsImageOf, HasLiveIds, NamesLiveIds}
use Rattle.ve_table.specs.Changes.{renumbered, without_dead}
use Rattle.ve_table.proofs.Opening.{nones}
use Rattle.ve_table.proofs.Setting.{none_is_some}
use Rattle.ve_table.proofs.LiveIds.{alive, length-of_live, of_live-at, live_id, number_within, number_rises, number_reflects}

-- lists and options under a map

pub get_or-map_default : {X Y : Type 0} (f : X → Y) (xs : List X) (i : ℕ) (d : X) → get_or (map f xs) i (f d) ≡ f (get_or xs i d)
get_or-map_default f [] zero d = refl
get_or-map_default f [] (suc i) d = refl
get_or-map_default f (x ∷ xs) zero d = refl
get_or-map_default f (x ∷ xs) (suc i) d = get_or-map_default f xs i d

pub is_some-map : {X Y : Type 0} (f : X → Y) (o : Option X) → is_some (option_map f o) ≡ is_some o
is_some-map f None = refl
is_some-map f (Some x) = refl

pub some_back : {X Y : Type 0} (f : X → Y) (o : Option X) (y : Y) → option_map f o ≡ Some y → (x : X) × (o ≡ Some x) × (f x ≡ y)
some_back {Y = Y} f None y is = absurd (no_some y is)
  where
    no_some : (y : Y) → None ≡ Some y → ⊥
    no_some y bad = cc
some_back f (Some x) y is = (x, refl, let e : f x ≡ y = cc in e)

-- new numbers and what they find

pub number_is : (T : ActionTable) (b : ℕ) → length T.forwards ≡ length T.words → live_below T b ≡ alive (take b T.forwards)
number_is T b same = length-of_live (take b T.forwards) T.words (omega (arith, length-take b T.forwards, same))

pub word_kept : (T : ActionTable) (b : ℕ) (d : Word) → length T.forwards ≡ length T.words → IsLive T b → get_or (live_words T) (live_below T b) d ≡ get_or T.words b d
word_kept T b d same live = ap (λ n. get_or (live_words T) n d) (number_is T b same) ∙ of_live-at T.forwards T.words b d same live

pub live_count : (T : ActionTable) → length T.forwards ≡ length T.words → length (live_words T) ≡ alive T.forwards
live_count T same = length-of_live T.forwards T.words (omega (arith, same))

pub old_id : (T : ActionTable) (n : ℕ) → length T.forwards ≡ length T.words → n < length (live_words T) → (b : ℕ) × IsLive T b × (live_below T b ≡ n)
old_id T n same lt = let found = live_id T.forwards n (omega (arith, lt, live_count T same)) in (found.0, found.1, number_is T found.0 same ∙ found.2)

pub number_in : (T : ActionTable) (b : ℕ) → length T.forwards ≡ length T.words → IsLive T b → live_below T b < length (live_words T)
number_in T b same live = omega (arith, number_is T b same, live_count T same, number_within T.forwards b live)

pub number_grows : (T : ActionTable) (a b : ℕ) → length T.forwards ≡ length T.words → IsLive T a → a < b → live_below T a < live_below T b
number_grows T a b same live lt = omega (arith, number_is T a same, number_is T b same, number_rises T.forwards a b lt live)

pub id_within : (T : ActionTable) (b : ℕ) → length T.forwards ≡ length T.words → IsLive T b → b < length T.words
id_within T b same live = omega (arith, same, slice_get_within T.forwards b None live)

pub row_kept : (T : ActionTable) (b x : ℕ) → length T.forwards ≡ length T.words → length T.rows ≡ length T.words → IsLive T b
    → row_at (without_dead T) (live_below T b) x ≡ option_map (renumbered T) (row_at T b x)
row_kept T b x same rows live =
    let there : get_or (of_live T.forwards T.rows) (live_below T b) [] ≡ get_or T.rows b [] =
    ap (λ n. get_or (of_live T.forwards T.rows) n []) (number_is T b same) ∙ of_live-at T.forwards T.rows b [] (same ∙ sym rows) live in
    ap (λ l. get_or l x None) (get_or-map_default (map (option_map (renumbered T))) (of_live T.forwards T.rows) (live_below T b) [] ∙ ap (map (option_map (renumbered T))) there)
    ∙ get_or-map_default (option_map (renumbered T)) (get_or T.rows b []) x None

-- vectors

below_kept : (T : ActionTable) (k : ℕ) (v : Row) → length T.forwards ≡ length T.words → HasLiveIds T v → AllBefore ◌<◌ k v → AllBefore ◌<◌ (live_below T k) (renumbered T v)
unfolding AllBefore
below_kept T k [] same live below = tt
below_kept T k (t ∷ v) same live below =
    (number_grows T t.0 k same (All-head (λ t. IsLive T t.0) t v live) below.0, below_kept T k v same (All-tail (λ t. IsLive T t.0) t v live) below.1)

pub reduced_kept : (T : ActionTable) (p : ℕ) (v : Row) → length T.forwards ≡ length T.words → HasLiveIds T v → IsReduced ◌<◌ p v → IsReduced ◌<◌ p (renumbered T v)
unfolding IsReduced
reduced_kept T p [] same live reduced = tt
reduced_kept T p (t ∷ v) same live reduced =
    let rest = All-tail (λ t. IsLive T t.0) t v live in
    (reduced.0, reduced.1, below_kept T t.0 v same rest reduced.2, reduced_kept T p v same rest reduced.3)

element_kept : (T : ActionTable) (v : Row) → length T.forwards ≡ length T.words → HasLiveIds T v → element_of (without_dead T) (renumbered T v) ≡ element_of T v
unfolding extended
element_kept T [] same live = refl
element_kept T (t ∷ v) same live =
    ap₂ (λ w l. scaled t.1 (unit w) ++ l) (word_kept T t.0 (generator 0) same (All-head (λ t. IsLive T t.0) t v live)) (element_kept T v same (All-tail (λ t. IsLive T t.0) t v live))

pub vector_kept : (T : ActionTable) (w : Word) (v : Row) → length T.forwards ≡ length T.words → HasLiveIds T v → IsVectorOf T w v → IsVectorOf (without_dead T) w (renumbered T v)
vector_kept T w v same live is = record {
  stands = record {
    row = (
      reduced_kept T (presented T).prime v same live is.stands.row.0,
      All-map (λ t. t.0 < length (live_words T)) (λ t. (live_below T t.0, t.1)) v (λ k d lt. number_in T (get_or v k d).0 same (live k d lt)),
    );
    derived = subst (λ e. DerivedWithin (presented T) T.level (difference (presented T).prime (unit w) e)) (sym (element_kept T v same live)) is.stands.derived;
  };
  not_after =
      All-map (λ t. (t.0 < length (live_words T)) × IsNotAfter (presented T) (word_at (without_dead T) t.0) w) (λ t. (live_below T t.0, t.1)) v
      (λ k d lt. (
        number_in T (get_or v k d).0 same (live k d lt),
        subst (λ u. IsNotAfter (presented T) u w) (sym (word_kept T (get_or v k d).0 (generator 0) same (live k d lt))) (is.not_after k d lt).1,
      ));
}

-- the table

pub no_dead : {X : Type 0} (ys : List X) (b : ℕ) (v : Row) → slice_get (map (λ _. None) ys) b ≡ Some (Some v) → ⊥
no_dead ys b v found =
    let none = nones ys b None (slice_get_within (map (λ _. None) ys) b (Some v) found) in
    let some = get_or_from_slice_get (map (λ _. None) ys) b (Some v) None found in
    no_some v (sym none ∙ some)
  where
    no_some : (v : Row) → None ≡ Some v → ⊥
    no_some v bad = cc

all_live_rows : {X : Type 0} (P : X → Type 0) (fs : List (Option Row)) (xs : List X) → All P xs → All P (of_live fs xs)
unfolding of_live
all_live_rows P [] xs all = All-nil P
all_live_rows P (f ∷ fs) [] all = All-nil P
all_live_rows P (None ∷ fs) (x ∷ xs) all = All-cons P x (of_live fs xs) (All-head P x xs all) (all_live_rows P fs xs (All-tail P x xs all))
all_live_rows P (Some v ∷ fs) (x ∷ xs) all = all_live_rows P fs xs (All-tail P x xs all)

pub sound_dropped : (T : ActionTable) → IsSound T → NamesLiveIds T → IsSound (without_dead T)
sound_dropped T sound live = record {
  valid = sound.valid;
  words = λ n d lt.
      let old = old_id T n same lt in
      subst (λ w. IsWord (presented T) w × (reach (presented T) w ≤ T.level)) (sym (word_old n d lt old)) (sound.words old.0 d (id_within T old.0 same old.1));
  rising = λ m n d lt within.
      let m_within : m < length (live_words T) = omega (arith, lt, within) in
      let first = old_id T m same m_within in
      let second = old_id T n same within in
      let order : first.0 < second.0 = number_reflects T.forwards first.0 second.0 second.1 (omega (arith, lt, first.2, second.2, number_is T first.0 same, number_is T second.0 same)) in
      subst (λ w. before (presented T) w (get_or (live_words T) n d)) (sym (word_old m d m_within first))
      (subst (λ w. before (presented T) (get_or T.words first.0 d) w) (sym (word_old n d within second))
      (sound.rising first.0 second.0 d order (id_within T second.0 same second.1)));
  prefixes = λ w x found.
      let old = old_id T found.0 same found.1 in
      let within = id_within T old.0 same old.1 in
      let here : get_or T.words old.0 (times w x) ≡ times w x = sym (word_old found.0 (times w x) found.1 old) ∙ found.2 in
      let shorter = sound.prefixes w x (old.0, within, here) in
      let word : word_at T shorter.0 ≡ w = get_or_default T.words shorter.0 (generator 0) w shorter.1 ∙ shorter.2 in
      let is_live = live.origins shorter.0 old.0 x old.1 (get_or_default T.words old.0 (generator 0) (times w x) within ∙ here ∙ ap (λ v. times v x) (sym word)) shorter.1 in
      (live_below T shorter.0, number_in T shorter.0 same is_live, word_kept T shorter.0 w same is_live ∙ shorter.2);
  one_forward_each = length-map (live_words T) none;
  one_row_list_each =
      length-map (of_live T.forwards T.rows) (map (option_map (renumbered T))) ∙ length-of_live T.forwards T.rows (omega (arith, same, rows)) ∙ sym (live_count T same);
  one_place_each =
      All-map (λ (row : List (Option Row)). length row ≡ letter_count (presented T)) (map (option_map (renumbered T))) (of_live T.forwards T.rows)
      (λ k d lt. length-map (get_or (of_live T.forwards T.rows) k d) (option_map (renumbered T))
      ∙ all_live_rows (λ (row : List (Option Row)). length row ≡ letter_count (presented T)) T.forwards T.rows sound.one_place_each k d lt);
  one_image_each = length-map T.images (renumbered T) ∙ sound.one_image_each;
  forwards = λ b v found. absurd (no_dead (live_words T) b v found);
  due = λ n x. due n x (cases_lt n (length (live_words T)));
  rows = λ n x v found. row n x v found (cases_lt n (length (live_words T)));
  images = λ i v found.
      let old = some_back (renumbered T) (slice_get T.images i) v (sym (slice_get-map (renumbered T) T.images i) ∙ found) in
      let is_live = subst (HasLiveIds T) (get_or_from_slice_get T.images i old.0 old.0 old.1) (live.images i old.0 (slice_get_within T.images i old.0 old.1)) in
      subst (λ u. IsImageOf (without_dead T) i u) old.2 (vector_kept T (generator i) old.0 same is_live (sound.images i old.0 old.1));
}
  where
    same : length T.forwards ≡ length T.words
    same = sound.one_forward_each

    rows : length T.rows ≡ length T.words
    rows = sound.one_row_list_each

    none : Word → Option Row
    none w = None

    word_old : (n : ℕ) (d : Word) → n < length (live_words T) → (old : (b : ℕ) × IsLive T b × (live_below T b ≡ n)) → get_or (live_words T) n d ≡ get_or T.words old.0 d
    word_old n d lt old = ap (λ m. get_or (live_words T) m d) (sym old.2) ∙ word_kept T old.0 d same old.1

    no_row_past : (n x : ℕ) → length (live_words T) ≤ n → row_at (without_dead T) n x ≡ None
    no_row_past n x past =
        let count : length (of_live T.forwards T.rows) ≡ alive T.forwards = length-of_live T.forwards T.rows (omega (arith, same, rows)) in
        ap (λ l. get_or l x None)
        (get_or_past (without_dead T).rows n [] (omega (arith, past, count, live_count T same, length-map (of_live T.forwards T.rows) (map (option_map (renumbered T))))))
        ∙ get_or_past [] x None (omega arith)

    due_live : (b x : ℕ) → IsLive T b → IsSome (row_at (without_dead T) (live_below T b) x) ↔ IsDue (without_dead T) (live_below T b) x
    due_live b x is_live =
        let word : word_at (without_dead T) (live_below T b) ≡ word_at T b = word_kept T b (generator 0) same is_live in
        let some : is_some (row_at (without_dead T) (live_below T b) x) ≡ is_some (row_at T b x) = ap is_some (row_kept T b x same rows is_live) ∙ is_some-map (renumbered T) (row_at T b x) in (
          λ is. let due = (sound.due b x).0 (sym some ∙ is) in
              (number_in T b same is_live, due.1, subst (λ w. reach (presented T) w + step (presented T) x ≤ T.level) (sym word) due.2),
          λ due. some ∙ (sound.due b x).1 (id_within T b same is_live, due.1, subst (λ w. reach (presented T) w + step (presented T) x ≤ T.level) word due.2),
        )

    due : (n x : ℕ) → (n < length (live_words T)) ⊎ (length (live_words T) ≤ n) → IsSome (row_at (without_dead T) n x) ↔ IsDue (without_dead T) n x
    due n x (inl lt) =
        let old = old_id T n same lt in
        subst (λ m. IsSome (row_at (without_dead T) m x) ↔ IsDue (without_dead T) m x) old.2 (due_live old.0 x old.1)
    due n x (inr past) = (λ is. absurd (none_is_some (row_at (without_dead T) n x) (no_row_past n x past) is), λ due. absurd (omega (arith, past, due.0)))

    row_live : (b x : ℕ) (v : Row) → IsLive T b → row_at (without_dead T) (live_below T b) x ≡ Some v → IsRowOf (without_dead T) (live_below T b) x v
    row_live b x v is_live found =
        let old = some_back (renumbered T) (row_at T b x) v (sym (row_kept T b x same rows is_live) ∙ found) in
        subst (λ w. IsVectorOf (without_dead T) (times w x) v) (sym (word_kept T b (generator 0) same is_live))
        (subst (λ u. IsVectorOf (without_dead T) (times (word_at T b) x) u) old.2
        (vector_kept T (times (word_at T b) x) old.0 same (live.rows b x old.0 is_live old.1) (sound.rows b x old.0 old.1)))

    row : (n x : ℕ) (v : Row) → row_at (without_dead T) n x ≡ Some v → (n < length (live_words T)) ⊎ (length (live_words T) ≤ n) → IsRowOf (without_dead T) n x v
    row n x v found (inl lt) =
        let old = old_id T n same lt in
        subst (λ m. IsRowOf (without_dead T) m x v) old.2 (row_live old.0 x v old.1 (subst (λ m. row_at (without_dead T) m x ≡ Some v) (sym old.2) found))
    row n x v found (inr past) = absurd (no_some v (sym (no_row_past n x past) ∙ found))
      where
        no_some : (v : Row) → None ≡ Some v → ⊥
        no_some v bad = cc
