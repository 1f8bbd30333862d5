-- Ids below the least dead one keep their numbers.
use Rattle.std.proofs.Common.{◌≡◌, ℕ, zero, suc, ◌+◌, ◌-◌, ◌*◌, ◌<◌, ◌≤◌, inl, inr, cond, Some, None, List, [], ◌∷◌, ◌++◌, length, map, take, drop, get_or, refl, sym, ap, ap₂, subst, ◌∙◌, arith}
use Rattle.std.specs.Prelude.{Option, All, IsSome, filter, nat_eq, slice_get, ◌↔◌}
use Rattle.std.specs.Option.{unwrap_or}
use Rattle.std.specs.List.{AllWithin}
use Rattle.std.proofs.lemmas.Bool.{cases_eq, cases_lt}
use Rattle.std.proofs.Math.ListN.{set}
use Rattle.std.proofs.lemmas.Option.{slice_get_within, get_or_from_slice_get}
use Rattle.std.proofs.lemmas.List.{length-take, length-drop, get_or-take, drop_all, take_all, append-nil}
use Rattle.std.proofs.lemmas.List.Elements.{All-nil, All-cons, All-head, All-tail}
use Rattle.std.proofs.lemmas.List.Filters.{FiltersInPlace}
use borrow.Rule.Slice.PartMut.{put_mid}
use Rattle.ve_theory.specs.Combinations.{AllBefore}
use Rattle.ve_theory.specs.Answers.{Row}
use Rattle.ve_theory.specs.Words.{Word, generator, times}
use Rattle.ve_theory.specs.Presentations.{Presentation, greatest_step, letter_count, reach}
use Rattle.ve_theory.specs.Laws.{HasBounds}
use Rattle.ve_theory.proofs.OrderedRows.{IsNotAfter-reach}
use Rattle.ve_vec.specs.Vectors.{numbered}
use Rattle.ve_lemmas.proofs.Weights.{reach-times, weights_rise}
use Rattle.ve_lemmas.proofs.InPlace.{get_or-unmapped, map_next}
use Rattle.ve_table.specs.declared.table.Table.TheInside.{Inside}
use Rattle.ve_table.specs.declared.origin.Origin.{Origin}
use Rattle.ve_table.specs.declared.origin.Origin.TheVariants.{Root, Child}
use Rattle.ve_table.specs.declared.entry.Entry.{Entry}
use Rattle.ve_table.specs.Tables.{ActionTable, IsDead, IsId, IsLive, presented, reach_at, row_at, word_at, live_below}
use Rattle.ve_table.specs.Sound.{IsSound}
use Rattle.ve_table.specs.Rows.{AreLiveRows}
use Rattle.ve_table.specs.Kept.{table_of, IsKept}
use Rattle.ve_table.specs.Numbers.{CanNumber, IsNumbered, new_numbers, numbered_origin}
use Rattle.ve_table.specs.Books.{IsOriginOf}
use Rattle.ve_table.specs.Deaths.{is_live_entry}
use Rattle.ve_table.proofs.Entries.{one_entry_each}
use Rattle.ve_table.proofs.Dropping.{number_is, number_in, number_grows, live_count, id_within}
use Rattle.ve_table.proofs.NothingDead.{all_alive}
use Rattle.ve_table.proofs.Listed.{at_place, vector_in}
use Rattle.ve_table.proofs.Renumbering.{number_at, kept_row, live_entry, old_entry}
use Rattle.ve_table.proofs.LiveIds.{alive_filter}

pub ids_live : (t : Inside) (T : ActionTable) (least : ℕ) → table_of t ≡ T → ((b : ℕ) → b < least → IsLive T b) → (b : ℕ) → b < least → IsLive (table_of t) b
ids_live t T least same live b lt = subst (λ T. IsLive T b) (sym same) (live b lt)

pub number_stays : (t : Inside) → IsKept t → (least : ℕ) → ((b : ℕ) → b < least → IsLive (table_of t) b) → (b : ℕ) → b < least → get_or (new_numbers t.entries.items) b 0 ≡ b
number_stays t kept least live b lt =
    let T : ActionTable = table_of t in
    let within = id_within T b kept.sound.one_forward_each (live b lt) in
    let few : length (take b T.forwards) ≡ b = omega (arith, length-take b T.forwards, within, kept.sound.one_forward_each) in
    let all : All (λ f. f ≡ None) (take b T.forwards) =
    λ k d inside. get_or-take b T.forwards k d (omega (arith, inside, few)) ∙ get_or_from_slice_get T.forwards k None d (live k (omega (arith, inside, few, lt))) in
    number_at t kept b (omega (arith, within, one_entry_each t kept)) ∙ number_is T b kept.sound.one_forward_each ∙ all_alive (take b T.forwards) all ∙ few

-- their entries

pub dead_within : (t : Inside) → IsKept t → (T : ActionTable) (b : ℕ) → table_of t ≡ T → IsDead T b → b ≤ length t.entries.items
dead_within t kept T b same dead =
    omega (arith, slice_get_within T.forwards b (Some dead.0) dead.1, ap (λ (T : ActionTable). length T.forwards) same, one_entry_each t kept, kept.sound.one_forward_each)

filter_all : (es : List Entry) → All (λ (e : Entry). e.death ≡ 0) es → filter is_live_entry es ≡ es
filter_all [] all = refl
filter_all (e ∷ es) all =
    ap₂ (λ n l. cond (nat_eq n 0) (e ∷ l) l) (All-head (λ (e : Entry). e.death ≡ 0) e es all) (filter_all es (All-tail (λ (e : Entry). e.death ≡ 0) e es all))

pub none_filtered : (es : List Entry) (least : ℕ) → least ≤ length es → AllWithin (λ (e : Entry). e.death ≡ 0) es 0 least → FiltersInPlace is_live_entry es es least least
none_filtered es least le live =
    let all : All (λ (e : Entry). e.death ≡ 0) (take least es) =
    λ k d lt. let inside : k < least = omega (arith, lt, length-take least es) in subst (λ (e : Entry). e.death ≡ 0) (sym (get_or-take least es k d inside)) (live k d (omega arith) inside) in
    record { front = sym (filter_all (take least es) all); rest = refl; behind = omega arith; within = le; long = refl }

pub entries_live : (t : Inside) → IsKept t → (least : ℕ) → ((b : ℕ) → b < least → IsLive (table_of t) b) → AllWithin (λ (e : Entry). e.death ≡ 0) t.entries.items 0 least
entries_live t kept least live k d low lt =
    let e = live_entry t kept k (live k lt) in
    subst (λ (e : Entry). e.death ≡ 0) (sym (get_or_from_slice_get t.entries.items k e.0 d e.1)) e.2

parent_stays : (words : List Word) (numbers : List ℕ) (least b : ℕ) (o : Origin) (w : Word) → ((a : ℕ) → a < least → get_or numbers a 0 ≡ a) → b < least → IsOriginOf words b o w → numbered_origin numbers o ≡ o
unfolding IsOriginOf
parent_stays words numbers least b (Root i) w same lt is = refl
parent_stays words numbers least b (Child parent x) w same lt is = ap (λ a. Child a x) (same parent (omega (arith, is.0, lt)))

pub entries_stay : (t : Inside) → IsKept t → (least : ℕ) → ((b : ℕ) → b < least → IsLive (table_of t) b) → (b : ℕ) (d : Entry) → b < least
    → IsNumbered (new_numbers t.entries.items) (get_or (filter is_live_entry t.entries.items) b d) (get_or (filter is_live_entry t.entries.items) b d)
entries_stay t kept least live b d lt =
    let T : ActionTable = table_of t in
    let same = kept.sound.one_forward_each in
    let number : live_below T b ≡ b = sym (number_at t kept b (omega (arith, one_entry_each t kept, id_within T b same (live b lt)))) ∙ number_stays t kept least live b lt in
    let inside : b < length (filter is_live_entry t.entries.items) = omega (arith, number, number_in T b same (live b lt), live_count T same, alive_filter t.forwards.items t.entries.items) in
    let old = old_entry t kept b d inside in
    let early : old.0 < least =
    elim (cases_lt b old.0) [
      | inl less ↦ absurd (omega (arith, number, old.2, number_grows T b old.0 same (live b lt) less))
      | inr past ↦ omega (arith, past, lt)
    ] in
    record {
      origin = sym (parent_stays T.words (new_numbers t.entries.items) least old.0 (get_or (filter is_live_entry t.entries.items) b d).origin (word_at T old.0) (number_stays t kept least live) early (kept.entries old.0 (get_or (filter is_live_entry t.entries.items) b d) old.3).origin);
      own_reach = refl;
      own_length = refl;
      death = refl;
    }

-- vectors of such ids

pub vector_stays : (numbers : List ℕ) (least : ℕ) → ((b : ℕ) → b < least → get_or numbers b 0 ≡ b) → (v : Row) → All (λ t. t.0 < least) v → numbered numbers v ≡ v
vector_stays numbers least same [] below = refl
vector_stays numbers least same (t ∷ v) below =
    ap₂ (λ i l. (i, t.1) ∷ l) (same t.0 (All-head (λ t. t.0 < least) t v below)) (vector_stays numbers least same v (All-tail (λ t. t.0 < least) t v below))

pub one_unmoved : (numbers : List ℕ) (least : ℕ) (xs ys : List Row) (i : ℕ) (d : Row) → ((b : ℕ) → b < least → get_or numbers b 0 ≡ b) → i < length xs → i < length ys → ys ≡ map (numbered numbers) (take i xs) ++ drop i xs
    → All (λ t. t.0 < least) (get_or ys i d) → set ys i (get_or ys i d) ≡ map (numbered numbers) (take (i + 1) xs) ++ drop (i + 1) xs
one_unmoved numbers least xs ys i d same inside within ys_are below =
    map_next (numbered numbers) xs ys i d (get_or ys i d) inside within ys_are (sym (vector_stays numbers least same (get_or ys i d) below))

pub next_numbered : (numbers : List ℕ) (xs ys : List Row) (i : ℕ) (d : Row) → All (CanNumber numbers) xs → i < length xs → ys ≡ map (numbered numbers) (take i xs) ++ drop i xs → CanNumber numbers (get_or ys i d)
next_numbered numbers xs ys i d all inside ys_are = subst (CanNumber numbers) (sym (ap (λ l. get_or l i d) ys_are ∙ get_or-unmapped (numbered numbers) xs i d)) (all i d inside)

rows_unmoved : (numbers : List ℕ) (least start : ℕ) (rows : List Row) → ((b : ℕ) → b < least → get_or numbers b 0 ≡ b) → start ≤ length rows → ((k : ℕ) → k < start → All (λ t. t.0 < least) (get_or rows k []))
    → take start rows ++ map (numbered numbers) (drop start rows) ≡ map (numbered numbers) rows
rows_unmoved numbers least zero [] same le below = refl
rows_unmoved numbers least zero (v ∷ rows) same le below = refl
rows_unmoved numbers least (suc start) [] same le below = refl
rows_unmoved numbers least (suc start) (v ∷ rows) same le below =
    ap₂ (λ u l. u ∷ l) (sym (vector_stays numbers least same v (below 0 (omega arith)))) (rows_unmoved numbers least start rows same (omega (arith, le)) (λ k lt. below (suc k) (omega (arith, lt))))

-- where only the later places are renumbered
pub all_renumbered : (numbers : List ℕ) (least start count : ℕ) (rows later : List Row) → ((b : ℕ) → b < least → get_or numbers b 0 ≡ b) → start ≤ length rows → count ≡ length rows - start
    → later ≡ map (numbered numbers) (take count (drop start rows)) → ((k : ℕ) → k < start → All (λ t. t.0 < least) (get_or rows k [])) → put_mid start count rows later ≡ map (numbered numbers) rows
all_renumbered numbers least start count rows later same le count_is later_are below =
    let all : length (drop start rows) ≤ count = omega (arith, length-drop start rows, count_is) in
    ap (λ l. take start rows ++ (later ++ l)) (drop_all count (drop start rows) all) ∙ ap (λ l. take start rows ++ l) (append-nil later ∙ later_are ∙ ap (map (numbered numbers)) (take_all count (drop start rows) all))
    ∙ rows_unmoved numbers least start rows same le below

-- the first term tells

all_below : (k id : ℕ) (v : Row) → AllBefore ◌≤◌ k v → k < id → All (λ t. t.0 < id) v
unfolding AllBefore
all_below k id [] before lt = All-nil (λ t. t.0 < id)
all_below k id (t ∷ v) before lt = All-cons (λ t. t.0 < id) t v (omega (arith, before.0, lt)) (all_below k id v before.1 lt)

pub leading_below : (k c id : ℕ) (v : Row) → slice_get v 0 ≡ Some (k, c) → AllBefore ◌≤◌ k v → (k < id) ↔ All (λ t. t.0 < id) v
leading_below k c id v first before = (
  λ lt. all_below k id v before lt,
  λ all.
      let here = all 0 (k, c) (slice_get_within v 0 (k, c) first) in
      let same = ap (λ t. t.0) (get_or_from_slice_get v 0 (k, c) (k, c) first) in
      omega (arith, here, same),
)

-- rows of words of small reach

no_less : (T : ActionTable) → IsSound T → (a b : ℕ) → a ≤ b → IsId T b → reach_at T a ≤ reach_at T b
no_less T sound a b le id =
    elim (cases_eq a b) [
      | inl same ↦ omega (arith, ap (reach_at T) same)
      | inr other ↦ weights_rise (presented T).weights (word_at T a) (word_at T b) (sound.rising a b (generator 0) (omega (arith, le, other)) id)
    ]

pub rows_below : (T : ActionTable) → IsSound T → HasBounds (presented T) → (id first reach : ℕ) → IsId T id → reach ≡ reach_at T id - greatest_step (presented T) → ((b : ℕ) → b < first → reach_at T b < reach)
    → (b x : ℕ) (v : Row) → b < first → row_at T b x ≡ Some v → All (λ t. t.0 < id) v
rows_below T sound bounds id first reach is_id reach_is small b x v lt found k d inside =
    let P : Presentation = presented T in
    let due = (sound.due b x).0 (subst IsSome (sym found) refl) in
    let term = (sound.rows b x v found).not_after k d inside in
    let up = IsNotAfter-reach P (word_at T (get_or v k d).0) (times (word_at T b) x) term.1 in
    let here = small b lt in
    elim (cases_lt (get_or v k d).0 id) [
      | inl less ↦ less
      | inr past ↦ absurd (omega (arith, up, here, reach_is, reach-times P (word_at T b) x, bounds.steps x, no_less T sound id (get_or v k d).0 past term.0))
    ]

-- so the places before theirs, once dead ids have left
pub places_below : (t : Inside) → IsKept t → (least first letters start : ℕ) (rows : List Row) → ((b : ℕ) → b < least → IsLive (table_of t) b) → first ≤ least → ((b x : ℕ) (v : Row) → b < first → row_at (table_of t) b x ≡ Some v → All (λ t. t.0 < least) v)
    → AreLiveRows (letter_count t.presentation.presentation) t.entries.items t.rows.items rows → start ≡ first * letters → letters ≡ letter_count t.presentation.presentation → (k : ℕ) → k < start → All (λ t. t.0 < least) (get_or rows k [])
places_below t kept least first letters start rows live few below are start_is letters_are k lt =
    let T : ActionTable = table_of t in
    let n : ℕ = letter_count t.presentation.presentation in
    let place = at_place n first k (omega (arith, lt, start_is ∙ ap (λ m. first * m) letters_are)) in
    let b : ℕ = place.0 in
    let early : b < least = omega (arith, place.2, few) in
    let stays : live_below T b ≡ b = sym (number_at t kept b (omega (arith, one_entry_each t kept, id_within T b kept.sound.one_forward_each (live b early)))) ∙ number_stays t kept least live b early in
    let here : get_or rows k [] ≡ vector_in T.rows b place.1 =
    ap (λ m. get_or rows m []) (place.4 ∙ ap (λ m. m * n + place.1) (sym stays)) ∙ kept_row t kept rows are b place.1 (live b early) place.3 in
    subst (All (λ t. t.0 < least)) (sym here) (each b place.1 place.2 (row_at T b place.1) refl)
  where
    each : (b x : ℕ) → b < first → (o : Option Row) → row_at (table_of t) b x ≡ o → All (λ t. t.0 < least) (unwrap_or o [])
    each b x lt None is = All-nil (λ t. t.0 < least)
    each b x lt (Some v) is = below b x v lt is
