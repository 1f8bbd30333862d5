-- A row or an image is put in another's place.
use Rattle.std.proofs.Common.{false, true, ◌≡◌, ℕ, ◌+◌, ◌*◌, ◌<◌, ◌≤◌, ◌⊎◌, inl, inr, Some, None, List, [], length, get_or, refl, sym, ap, ap₂, subst, ◌∙◌, arith}
use Rattle.std.specs.Prelude.{Option, All, IsSome, slice_get}
use Rattle.std.specs.Prelude.{Vec as VecValue}
use Rattle.std.specs.Global.{Global}
use Rattle.std.proofs.Math.ListN.{set}
use Rattle.std.proofs.lemmas.List.{length-set, get_or-set_same, get_or-set_other, get_or_past}
use Rattle.std.proofs.lemmas.List.Elements.{All-set}
use Rattle.std.proofs.lemmas.Bool.{cases_eq, cases_lt}
use Rattle.ve_pres.specs.Drafts.{Draft}
use Rattle.ve_theory.specs.Words.{Word}
use Rattle.ve_theory.specs.Presentations.{letter_count}
use Rattle.ve_theory.specs.Answers.{Row}
use Rattle.ve_table.specs.Tables.{ActionTable, presented, row_at, live_words}
use Rattle.ve_table.specs.Reaches.{AreReaches}
use Rattle.ve_table.specs.Sound.{IsSound, IsVectorOf, IsRowOf, IsImageOf, StandsFor}
use Rattle.ve_table.specs.Changes.{with_row, with_image}
use Rattle.ve_table.specs.Rows.{listed}
use Rattle.ve_table.specs.Kept.{table_of, IsEntryOf, IsKept}
use Rattle.ve_table.specs.declared.table.Table.TheInside.{Inside}
use Rattle.ve_table.specs.declared.entry.Entry.{Entry}
use Rattle.ve_table.specs.Deaths.{KeepsForwards}
use Rattle.ve_table.proofs.Entries.{same_some, tabled, has_entry, rows_agree, rows_below, row_bounded, zero_past}
use Rattle.ve_table.proofs.Listed.{row_in, Agree, AreBelow, count_listed, wide_listed, listed_are_below, listed_is, set_agrees}
use Rattle.ve_table.proofs.Killing.{read_set}

-- images

pub sound_imaged : (T : ActionTable) (i : ℕ) (v : Row) → IsSound T → IsImageOf T i v → IsSound (with_image T i v)
sound_imaged T i v sound is_image = record {
  valid = sound.valid;
  words = sound.words;
  rising = sound.rising;
  prefixes = sound.prefixes;
  one_forward_each = sound.one_forward_each;
  one_row_list_each = sound.one_row_list_each;
  one_place_each = sound.one_place_each;
  one_image_each = length-set T.images i v ∙ sound.one_image_each;
  forwards = λ c u found. let forward = sound.forwards c u found in record { stands = stood forward.stands; below = forward.below };
  due = sound.due;
  rows = λ c x u found. seen (sound.rows c x u found);
  images = λ j u found.
      elim (read_set T.images i j v u found) [
        | inl (same, there) ↦ seen (subst (λ n. IsImageOf T n u) same (subst (λ w. IsImageOf T i w) there is_image))
        | inr there ↦ seen (sound.images j u there)
      ];
}
  where
    stood : {w : Word} {u : Row} → StandsFor T w u → StandsFor (with_image T i v) w u
    stood stands = record { row = stands.row; derived = stands.derived }

    seen : {w : Word} {u : Row} → IsVectorOf T w u → IsVectorOf (with_image T i v) w u
    seen vector = record { stands = stood vector.stands; not_after = vector.not_after }

pub kept_imaged : (T : ActionTable) (items : List Entry) (i : ℕ) (v : Row) → ((c : ℕ) (f : Entry) → slice_get items c ≡ Some f → IsEntryOf T c f)
    → (c : ℕ) (f : Entry) → slice_get items c ≡ Some f → IsEntryOf (with_image T i v) c f
kept_imaged T items i v each c f found = let own = each c f found in record { origin = own.origin; own_reach = own.own_reach; own_length = own.own_length }

-- rows

pub none_is_some : {X : Type 0} (o : Option X) → o ≡ None → IsSome o → ⊥
none_is_some o none some = let bad : false ≡ true = subst IsSome none some in cc

-- a row that is there has a place
pub place_of : (rows : List (List (Option Row))) (b x : ℕ) → IsSome (row_in rows b x) → (b < length rows) × (x < length (get_or rows b []))
place_of rows b x is_some = (
  elim (cases_lt b (length rows)) [
    | inl lt ↦ lt
    | inr past ↦ absurd (none_is_some (row_in rows b x) (ap (λ l. get_or l x None) (get_or_past rows b [] past)) is_some)
  ],
  elim (cases_lt x (length (get_or rows b []))) [
    | inl lt ↦ lt
    | inr past ↦ absurd (none_is_some (row_in rows b x) (get_or_past (get_or rows b []) x None past) is_some)
  ],
)

-- what stands in a row after a write: the new vector there, and what stood elsewhere
pub row_written : (rows : List (List (Option Row))) (b x c y : ℕ) (v : Row) → IsSome (row_in rows b x)
    → ((b ≡ c) × (x ≡ y) × (row_in (set rows b (set (get_or rows b []) x (Some v))) c y ≡ Some v))
    ⊎ (row_in (set rows b (set (get_or rows b []) x (Some v))) c y ≡ row_in rows c y)
row_written rows b x c y v is_some =
    let place = place_of rows b x is_some in
    elim (cases_eq c b) [
      | inl same ↦ at_id same (subst (λ n. get_or (set rows b (set (get_or rows b []) x (Some v))) n [] ≡ set (get_or rows b []) x (Some v)) (sym same) (get_or-set_same rows b (set (get_or rows b []) x (Some v)) [] place.0))
      | inr differ ↦ inr (ap (λ l. get_or l y None) (get_or-set_other rows b c (set (get_or rows b []) x (Some v)) [] differ))
    ]
  where
    at_id : c ≡ b → get_or (set rows b (set (get_or rows b []) x (Some v))) c [] ≡ set (get_or rows b []) x (Some v)
        → ((b ≡ c) × (x ≡ y) × (row_in (set rows b (set (get_or rows b []) x (Some v))) c y ≡ Some v))
        ⊎ (row_in (set rows b (set (get_or rows b []) x (Some v))) c y ≡ row_in rows c y)
    at_id same row_is =
        elim (cases_eq y x) [
          | inl here ↦ inl (sym same, sym here, ap (λ l. get_or l y None) row_is ∙ subst (λ n. get_or (set (get_or rows b []) x (Some v)) n None ≡ Some v) (sym here) (get_or-set_same (get_or rows b []) x (Some v) None (place_of rows b x is_some).1))
          | inr other ↦ inr (ap (λ l. get_or l y None) row_is ∙ get_or-set_other (get_or rows b []) x y (Some v) None other ∙ ap (λ n. row_in rows n y) (sym same))
        ]

-- a row that is written was there
pub set_below : (n ids : ℕ) (bounds : List ℕ) (lists : List (List (Option Row))) (b x : ℕ) (v : Row) → IsSome (row_in lists b x) → AreBelow n ids bounds lists → AreBelow n ids bounds (set lists b (set (get_or lists b []) x (Some v)))
set_below n ids bounds lists b x v is_some below c y id letter =
    elim (row_written lists b x c y v is_some) [
      | inl here ↦ (λ _. (below c y id letter).0 (subst (λ m. IsSome (row_in lists c m)) here.1 (subst (λ m. IsSome (row_in lists m x)) here.0 is_some)), λ _. subst IsSome (sym here.2) refl)
      | inr there ↦ (λ some. (below c y id letter).0 (subst IsSome there some), λ lt. subst IsSome (sym there) ((below c y id letter).1 lt))
    ]

pub sound_rowed : (T : ActionTable) (b x : ℕ) (v : Row) → IsSound T → IsSome (row_at T b x) → IsRowOf T b x v → IsSound (with_row T b x v)
sound_rowed T b x v sound is_some is_row = record {
  valid = sound.valid;
  words = sound.words;
  rising = sound.rising;
  prefixes = sound.prefixes;
  one_forward_each = sound.one_forward_each;
  one_row_list_each = length-set T.rows b (set (get_or T.rows b []) x (Some v)) ∙ sound.one_row_list_each;
  one_place_each =
      All-set (λ (row : List (Option Row)). length row ≡ letter_count (presented T)) T.rows b (set (get_or T.rows b []) x (Some v))
      (length-set (get_or T.rows b []) x (Some v) ∙ sound.one_place_each b [] (place_of T.rows b x is_some).0) sound.one_place_each;
  one_image_each = sound.one_image_each;
  forwards = λ c u found. let forward = sound.forwards c u found in record { stands = stood forward.stands; below = forward.below };
  due = λ c y.
      elim (row_written T.rows b x c y v is_some) [
        | inl here ↦ (λ _. (sound.due c y).0 (subst (λ n. IsSome (row_at T c n)) here.1 (subst (λ n. IsSome (row_at T n x)) here.0 is_some)), λ _. subst IsSome (sym here.2) refl)
        | inr there ↦ (λ some. (sound.due c y).0 (subst IsSome there some), λ due. subst IsSome (sym there) ((sound.due c y).1 due))
      ];
  rows = λ c y u found.
      elim (row_written T.rows b x c y v is_some) [
        | inl here ↦ seen (subst (λ n. IsRowOf T n y u) here.0 (subst (λ n. IsRowOf T b n u) here.1 (subst (λ w. IsRowOf T b x w) (same_some v u (sym here.2 ∙ found)) is_row)))
        | inr there ↦ seen (sound.rows c y u (sym there ∙ found))
      ];
  images = λ j u found. seen (sound.images j u found);
}
  where
    stood : {w : Word} {u : Row} → StandsFor T w u → StandsFor (with_row T b x v) w u
    stood stands = record { row = stands.row; derived = stands.derived }

    seen : {w : Word} {u : Row} → IsVectorOf T w u → IsVectorOf (with_row T b x v) w u
    seen vector = record { stands = stood vector.stands; not_after = vector.not_after }

-- the table with another row
pub rowed : (draft : Draft) (level : ℕ) (images : List Row) (bounds : List ℕ) (rows forwards : List Row) (items : List Entry) (b x : ℕ) (v : Row)
    → Agree (letter_count draft.presentation) rows (listed (letter_count draft.presentation) (length items) bounds rows)
    → IsSome (row_in (listed (letter_count draft.presentation) (length items) bounds rows) b x) → b < length items → x < letter_count draft.presentation → b * letter_count draft.presentation + x < length rows
    → tabled draft level images bounds (set rows (b * letter_count draft.presentation + x) v) forwards items ≡ with_row (tabled draft level images bounds rows forwards items) b x v
rowed draft level images bounds rows forwards items b x v agree is_some id letter place =
    let n : ℕ = letter_count draft.presentation in
    let lists : List (List (Option Row)) = listed n (length items) bounds rows in
    let wide = wide_listed n (length items) bounds rows in
    let inside : b < length lists = omega (arith, id, count_listed n (length items) bounds rows) in
    let width : length (get_or lists b []) ≡ n = wide b [] inside in
    ap (λ (r : List (List (Option Row))). record (tabled draft level images bounds rows forwards items) { rows = r })
    (listed_is n (length items) bounds (set rows (b * n + x) v) (set lists b (set (get_or lists b []) x (Some v))) (length-set lists b (set (get_or lists b []) x (Some v)) ∙ count_listed n (length items) bounds rows)
    (All-set (λ (row : List (Option Row)). length row ≡ n) lists b (set (get_or lists b []) x (Some v)) (length-set (get_or lists b []) x (Some v) ∙ width) wide)
    (set_agrees n rows lists b x v agree inside letter width place)
    (set_below n (length items) bounds lists b x v is_some (listed_are_below n (length items) bounds rows)))

pub kept_rowed : (T : ActionTable) (items : List Entry) (b x : ℕ) (v : Row) → ((c : ℕ) (f : Entry) → slice_get items c ≡ Some f → IsEntryOf T c f)
    → (c : ℕ) (f : Entry) → slice_get items c ≡ Some f → IsEntryOf (with_row T b x v) c f
kept_rowed T items b x v each c f found = let own = each c f found in record { origin = own.origin; own_reach = own.own_reach; own_length = own.own_length }

-- a row that is there has a place in the list
pub has_place : (t : Inside) → IsKept t → (b x : ℕ) → IsSome (row_at (table_of t) b x) → (b < length t.entries.items) × (x < letter_count t.presentation.presentation) × (b * letter_count t.presentation.presentation + x < length t.rows.items)
has_place t kept b x is_some =
    let due = (kept.sound.due b x).0 is_some in
    (has_entry t kept b due.0, due.1, kept.places b x due.1 (row_bounded t b x is_some))

-- the place as a call has it
pub set_place : (t : Inside) → IsKept t → (b x letters y : ℕ) → letters ≡ length t.presentation.presentation.weights → y ≡ x → b * letters + y ≡ b * letter_count t.presentation.presentation + x
set_place t kept b x letters y letters_are y_is = ap₂ (λ n z. b * n + z) (letters_are ∙ kept.sound.valid.presentation.one_weight_each) y_is

-- the table with a row set
pub row_set : (t : Inside) → IsKept t → (b x place : ℕ) (v : Row) → place ≡ b * letter_count t.presentation.presentation + x → IsSome (row_at (table_of t) b x)
    → tabled t.presentation t.level t.images.items t.bounds.items (set t.rows.items place v) t.forwards.items t.entries.items ≡ with_row (table_of t) b x v
row_set t kept b x place v place_is is_some =
    let there = has_place t kept b x is_some in
    ap (λ k. tabled t.presentation t.level t.images.items t.bounds.items (set t.rows.items k v) t.forwards.items t.entries.items) place_is
    ∙ rowed t.presentation t.level t.images.items t.bounds.items t.rows.items t.forwards.items t.entries.items b x v (rows_agree t kept) is_some there.0 there.1 there.2

pub kept_with_row : (t u : Inside) → IsKept t → (b x place : ℕ) (v : Row) → place ≡ b * letter_count t.presentation.presentation + x → IsSome (row_at (table_of t) b x) → IsRowOf (table_of t) b x v → table_of u ≡ with_row (table_of t) b x v
    → u.rows.items ≡ set t.rows.items place v → u.bounds ≡ t.bounds → u.entries.items ≡ t.entries.items → u.forwards ≡ t.forwards → u.presentation ≡ t.presentation → u.live ≡ t.live → u.reaches ≡ t.reaches → IsKept u
kept_with_row t u kept b x place v place_is is_some is_row same rows bounds entries forwards presentation live reaches =
    let n : ℕ = letter_count t.presentation.presentation in
    let letters : letter_count u.presentation.presentation ≡ n = ap (λ (d : Draft). letter_count d.presentation) presentation in
    let count : length u.rows.items ≡ length t.rows.items = ap length rows ∙ length-set t.rows.items place v in
    let there = has_place t kept b x is_some in
    let inside : b < length (table_of t).rows = omega (arith, there.0, count_listed n (length t.entries.items) t.bounds.items t.rows.items) in
    let width : length (get_or (table_of t).rows b []) ≡ n = kept.sound.one_place_each b [] inside in
    let agree = set_agrees n t.rows.items (table_of t).rows b x v (rows_agree t kept) inside there.1 width there.2 in
    let below = set_below n (length t.entries.items) t.bounds.items (table_of t).rows b x v is_some (rows_below t) in
    let written : List (List (Option Row)) = set (table_of t).rows b (set (get_or (table_of t).rows b []) x (Some v)) in
    let total : length written ≡ length t.entries.items = length-set (table_of t).rows b (set (get_or (table_of t).rows b []) x (Some v)) ∙ count_listed n (length t.entries.items) t.bounds.items t.rows.items in
    let others : (c y : ℕ) → y < n → get_or t.bounds.items y 0 ≤ c → get_or (set t.rows.items (b * n + x) v) (c * n + y) [] ≡ [] =
    zero_past n (length t.entries.items) t.bounds.items (set t.rows.items (b * n + x) v) written total agree below in
    record {
      sound = subst IsSound (sym same) (sound_rowed (table_of t) b x v kept.sound is_some is_row);
      entries = λ c f found. subst (λ U. IsEntryOf U c f) (sym same) (kept_rowed (table_of t) t.entries.items b x v kept.entries c f (subst (λ l. slice_get l c ≡ Some f) entries found));
      count = omega (arith, kept.count, ap length entries);
      few_places =
          let few : length u.rows.items ≤ length u.entries.items * n = omega (arith, count, kept.few_places, ap (λ l. length l * n) entries) in
          subst (λ m. length u.rows.items ≤ length u.entries.items * m) (sym letters) few;
      places = subst (λ (bs : VecValue ℕ Global). (c y : ℕ) → y < letter_count u.presentation.presentation → c < get_or bs.items y 0 → c * letter_count u.presentation.presentation + y < length u.rows.items) (sym bounds)
          (subst (λ m. (c y : ℕ) → y < m → c < get_or t.bounds.items y 0 → c * m + y < length u.rows.items) (sym letters) (λ c y letter lt. let inside = kept.places c y letter lt in omega (arith, inside, count)));
      rest = subst (λ (bs : VecValue ℕ Global). (c y : ℕ) → y < letter_count u.presentation.presentation → get_or bs.items y 0 ≤ c → get_or u.rows.items (c * letter_count u.presentation.presentation + y) [] ≡ []) (sym bounds)
          (subst (λ m. (c y : ℕ) → y < m → get_or t.bounds.items y 0 ≤ c → get_or u.rows.items (c * m + y) [] ≡ []) (sym letters)
          (λ c y letter past. ap (λ l. get_or l (c * n + y) []) (rows ∙ ap (λ k. set t.rows.items k v) place_is) ∙ others c y letter past));
      one_bound_each = ap (λ (bs : VecValue ℕ Global). length bs.items) bounds ∙ kept.one_bound_each ∙ sym letters;
      bounds = subst (λ (bs : VecValue ℕ Global). All (λ bound. bound ≤ length u.entries.items) bs.items) (sym bounds) (subst (λ l. All (λ bound. bound ≤ length l) t.bounds.items) (sym entries) kept.bounds);
      live_count = live ∙ kept.live_count ∙ ap (λ U. length (live_words U)) (sym same);
      own_forwards = subst (KeepsForwards u.entries.items u.live) (sym forwards) (subst (λ n. KeepsForwards u.entries.items n t.forwards) (sym live) (subst (λ l. KeepsForwards l t.live t.forwards) (sym entries) kept.own_forwards));
      own_reaches = subst (λ d. AreReaches d.presentation u.reaches) (sym presentation) (subst (λ r. AreReaches t.presentation.presentation r) (sym reaches) kept.own_reaches);
    }
