-- The entries of live ids, numbered anew, are the table without the dead ones.
use Rattle.std.proofs.Common.{◌≡◌, ℕ, suc, ◌+◌, ◌*◌, ◌<◌, ◌≤◌, ◌⊎◌, inl, inr, Some, None, List, [], ◌∷◌, length, map, take, get_or, refl, sym, ap, ap₂, subst, ◌∙◌, arith}
use Rattle.std.specs.Prelude.{Option, All, IsSome, slice_get, filter, count_by, min}
use Rattle.std.specs.Option.{is_some, option_map, unwrap_or}
use Rattle.std.specs.Vec.{vec_capacity}
use Rattle.ve_pres.specs.Drafts.{Draft}
use Rattle.std.proofs.lemmas.Option.{slice_get_within, slice_get-get_or, slice_get-map, get_or_from_slice_get}
use Rattle.std.proofs.lemmas.Bool.{cases_lt, eqb-true}
use Rattle.std.proofs.lemmas.List.{get_or_past, length-map, take-map, map-id, get_or_default}
use Rattle.std.proofs.lemmas.List.FromFn.{get_or-map-range_with_len, length-map-range_with_len}
use Rattle.std.proofs.lemmas.List.Elements.{All-nil, All-head, All-tail, filter_passes}
use Rattle.std.proofs.lemmas.List.Sums.{length-filter, count_by-le-length}
use Rattle.ve_theory.specs.Combinations.{IsReduced}
use Rattle.ve_theory.specs.Words.{Word, generator, times, word_length}
use Rattle.ve_theory.specs.Presentations.{letter_count, reach}
use Rattle.ve_theory.specs.Answers.{Row}
use Rattle.ve_vec.specs.Vectors.{numbered}
use Rattle.ve_table.specs.declared.origin.Origin.{Origin}
use Rattle.ve_table.specs.declared.origin.Origin.TheVariants.{Root, Child}
use Rattle.ve_table.specs.declared.entry.Entry.{Entry}
use Rattle.ve_table.specs.declared.table.Table.TheInside.{Inside}
use Rattle.ve_table.specs.Books.{words_of, IsOriginOf}
use Rattle.ve_table.specs.Tables.{ActionTable, presented, word_at, row_at, IsLive, of_live, live_words, live_below}
use Rattle.ve_table.specs.Reaches.{AreReaches}
use Rattle.ve_table.specs.Sound.{IsSound, HasLiveIds, NamesLiveIds}
use Rattle.ve_table.specs.Changes.{renumbered, without_dead}
use Rattle.ve_table.specs.Rows.{AreBounds, AreLiveRows}
use Rattle.ve_table.specs.Steps.{HasRisingReaches}
use Rattle.ve_table.proofs.Stepping.{rising_entries}
use Rattle.ve_table.specs.Kept.{table_of, IsEntryOf, IsKept}
use Rattle.ve_table.specs.Numbers.{new_numbers, CanNumber, HasParentBelow, numbered_origin, CanNumberEntry, IsNumbered, AreNumbered}
use Rattle.ve_table.specs.Deaths.{is_live_entry, forward_of, forwards_of}
use Rattle.ve_table.proofs.Deaths.{live_death, keeps_live}
use Rattle.ve_table.proofs.Entries.{tabled, one_entry_each, rows_agree, row_bounded, below_due, zero_past}
use Rattle.ve_table.proofs.Listed.{Agree, AreBelow, vector_in, at_place, place_past, no_id, listed_is}
use Rattle.ve_table.proofs.Opening.{same_map, all_live, nones}
use Rattle.ve_table.proofs.Spelling.{words_are}
use Rattle.ve_table.proofs.LiveIds.{alive, of_live-at, live_filter, alive_filter, alive_entries}
use Rattle.ve_table.proofs.Dropping.{get_or-map_default, is_some-map, row_kept, number_is, word_kept, live_count, old_id, number_grows, id_within, reduced_kept, sound_dropped, some_back}

-- lists

map_same : {X Z : Type 0} (f g : X → Z) (xs : List X) → ((k : ℕ) (c : X) → k < length xs → f (get_or xs k c) ≡ g (get_or xs k c)) → map f xs ≡ map g xs
map_same f g [] each = refl
map_same f g (x ∷ xs) each = ap₂ (λ z l. z ∷ l) (each 0 x (omega arith)) (map_same f g xs (λ k c lt. each (suc k) c (omega (arith, lt))))

-- the numbers of all ids

pub filter_is : (fs : List Row) (es : List Entry) → filter is_live_entry es ≡ of_live (forwards_of fs es) es
filter_is fs es =
    sym (map-id (filter is_live_entry es)) ∙ sym (live_filter (λ (e : Entry). e) fs es) ∙ ap (of_live (forwards_of fs es)) (map-id es)

pub number_at : (t : Inside) → IsKept t → (b : ℕ) → b < length t.entries.items → get_or (new_numbers t.entries.items) b 0 ≡ live_below (table_of t) b
number_at t kept b lt =
    let es : List Entry = t.entries.items in
    get_or-map-range_with_len (λ b. count_by is_live_entry (take b es)) 0 (length es) b b 0 lt (omega arith)
    ∙ alive_entries t.forwards.items (take b es) ∙ ap alive (sym (take-map (λ (e : Entry). forward_of t.forwards.items e.death) b es)) ∙ sym (number_is (table_of t) b kept.sound.one_forward_each)

numbered_is : (T : ActionTable) (numbers : List ℕ) (n : ℕ) → ((b : ℕ) → b < n → get_or numbers b 0 ≡ live_below T b) → (v : Row) → All (λ t. t.0 < n) v → numbered numbers v ≡ renumbered T v
numbered_is T numbers n at [] within = refl
numbered_is T numbers n at (t ∷ v) within =
    ap₂ (λ i l. (i, t.1) ∷ l) (at t.0 (All-head (λ t. t.0 < n) t v within)) (numbered_is T numbers n at v (All-tail (λ t. t.0 < n) t v within))

-- a vector of live ids
live_within : (t : Inside) → IsKept t → (v : Row) → HasLiveIds (table_of t) v → All (λ t'. t'.0 < length t.entries.items) v
live_within t kept v live = λ k d lt. omega (arith, one_entry_each t kept, id_within (table_of t) (get_or v k d).0 kept.sound.one_forward_each (live k d lt))

pub vector_numbered : (t : Inside) → IsKept t → (v : Row) → HasLiveIds (table_of t) v → numbered (new_numbers t.entries.items) v ≡ renumbered (table_of t) v
vector_numbered t kept v live = numbered_is (table_of t) (new_numbers t.entries.items) (length t.entries.items) (number_at t kept) v (live_within t kept v live)

pub can_number : (t : Inside) → IsKept t → (p : ℕ) (v : Row) → HasLiveIds (table_of t) v → IsReduced ◌<◌ p v → CanNumber (new_numbers t.entries.items) v
can_number t kept p v live reduced = record {
  ids = λ k d lt. omega (arith, live_within t kept v live k d lt, length-map-range_with_len (λ b. count_by is_live_entry (take b t.entries.items)) 0 (length t.entries.items));
  order = (p, subst (IsReduced ◌<◌ p) (sym (vector_numbered t kept v live)) (reduced_kept (table_of t) p v kept.sound.one_forward_each live reduced));
}

can_number_zero : (numbers : List ℕ) → CanNumber numbers []
unfolding IsReduced
can_number_zero numbers = record { ids = All-nil (λ t. t.0 < length numbers); order = (0, tt) }

parent_below : (words : List Word) (b n : ℕ) (o : Origin) (w : Word) → IsOriginOf words b o w → b ≤ n → HasParentBelow n o
unfolding IsOriginOf
parent_below words b n (Root i) w is le = tt
parent_below words b n (Child parent x) w is le = omega (arith, is.0, le)

pub can_number_entry : (t : Inside) → IsKept t → (b : ℕ) (e : Entry) → slice_get t.entries.items b ≡ Some e → CanNumberEntry (new_numbers t.entries.items) e
can_number_entry t kept b e e_is =
    parent_below (table_of t).words b (length (new_numbers t.entries.items)) e.origin (word_at (table_of t) b) (kept.entries b e e_is).origin
    (omega (arith, slice_get_within t.entries.items b e e_is, length-map-range_with_len (λ b. count_by is_live_entry (take b t.entries.items)) 0 (length t.entries.items)))

-- the id that an entry was at
pub old_entry : (t : Inside) → IsKept t → (k : ℕ) (d : Entry) → k < length (filter is_live_entry t.entries.items)
    → (b : ℕ) × IsLive (table_of t) b × (live_below (table_of t) b ≡ k) × (slice_get t.entries.items b ≡ Some (get_or (filter is_live_entry t.entries.items) k d))
old_entry t kept k d lt =
    let T : ActionTable = table_of t in
    let same = kept.sound.one_forward_each in
    let old = old_id T k same (omega (arith, lt, alive_filter t.forwards.items t.entries.items, live_count T same)) in
    let entries : length T.forwards ≡ length t.entries.items = length-map t.entries.items (λ (e : Entry). forward_of t.forwards.items e.death) in
    let here : get_or (filter is_live_entry t.entries.items) k d ≡ get_or t.entries.items old.0 d =
    ap (λ l. get_or l k d) (filter_is t.forwards.items t.entries.items) ∙ ap (λ n. get_or (of_live T.forwards t.entries.items) n d) (sym old.2 ∙ number_is T old.0 same)
    ∙ of_live-at T.forwards t.entries.items old.0 d entries old.1 in
    (old.0, old.1, old.2, slice_get-get_or t.entries.items old.0 d (omega (arith, entries, slice_get_within T.forwards old.0 None old.1)) ∙ ap Some (sym here))

pub can_number_entries : (t : Inside) → IsKept t → All (CanNumberEntry (new_numbers t.entries.items)) (filter is_live_entry t.entries.items)
can_number_entries t kept k d lt = let old = old_entry t kept k d lt in can_number_entry t kept old.0 (get_or (filter is_live_entry t.entries.items) k d) old.3

pub can_number_images : (t : Inside) → IsKept t → NamesLiveIds (table_of t) → All (CanNumber (new_numbers t.entries.items)) t.images.items
can_number_images t kept live k d lt =
    let image = kept.sound.images k (get_or t.images.items k d) (slice_get-get_or t.images.items k d lt) in
    can_number t kept (presented (table_of t)).prime (get_or t.images.items k d) (live.images k d lt) image.stands.row.0

-- the table's parts

origin_kept : (t : Inside) → IsKept t → NamesLiveIds (table_of t) → (b : ℕ) (o : Origin) → IsLive (table_of t) b → IsOriginOf (table_of t).words b o (word_at (table_of t) b)
    → IsOriginOf (live_words (table_of t)) (live_below (table_of t) b) (numbered_origin (new_numbers t.entries.items) o) (word_at (table_of t) b)
unfolding IsOriginOf
origin_kept t kept live b (Root i) is_live is = is
origin_kept t kept live b (Child parent x) is_live is =
    let T : ActionTable = table_of t in
    let same = kept.sound.one_forward_each in
    let within : b < length T.words = id_within T b same is_live in
    let parent_live = live.origins parent b x is_live is.1 (omega (arith, is.0, within)) in
    let number : get_or (new_numbers t.entries.items) parent 0 ≡ live_below T parent = number_at t kept parent (omega (arith, is.0, within, one_entry_each t kept)) in (
      omega (arith, number, number_grows T parent b same parent_live is.0),
      is.1 ∙ ap (λ v. times v x) (sym (ap (λ n. get_or (live_words T) n (generator 0)) number ∙ word_kept T parent (generator 0) same parent_live)),
    )

abbrev pub AreDropped : Inside → List Entry → Type 0
AreDropped t new = AreNumbered (new_numbers t.entries.items) (filter is_live_entry t.entries.items) new

length_dropped : (t : Inside) → IsKept t → (new : List Entry) → AreDropped t new → length new ≡ length (live_words (table_of t))
length_dropped t kept new are = are.count ∙ alive_filter t.forwards.items t.entries.items ∙ sym (live_count (table_of t) kept.sound.one_forward_each)

pub entries_within : (t : Inside) (new : List Entry) → AreDropped t new → length new ≤ length t.entries.items
entries_within t new are = omega (arith, are.count, length-filter is_live_entry t.entries.items, count_by-le-length is_live_entry t.entries.items)

dropped_words : (t : Inside) → IsKept t → NamesLiveIds (table_of t) → (new : List Entry) → AreDropped t new → words_of (map (λ (e : Entry). e.origin) new) ≡ live_words (table_of t)
dropped_words t kept live new are =
    words_are (live_words (table_of t)) (map (λ (e : Entry). e.origin) new) (length-map new (λ (e : Entry). e.origin) ∙ length_dropped t kept new are) at
  where
    at : (k : ℕ) (o : Origin) → slice_get (map (λ (e : Entry). e.origin) new) k ≡ Some o → IsOriginOf (live_words (table_of t)) k o (get_or (live_words (table_of t)) k (generator 0))
    at k o found =
        let T : ActionTable = table_of t in
        let e' = some_back (λ (e : Entry). e.origin) (slice_get new k) o (sym (slice_get-map (λ (e : Entry). e.origin) new k) ∙ found) in
        let lt : k < length (filter is_live_entry t.entries.items) = omega (arith, are.count, slice_get_within new k e'.0 e'.1) in
        let old = old_entry t kept k e'.0 lt in
        let is = are.each k e'.0 lt in
        let here : get_or new k e'.0 ≡ e'.0 = get_or_from_slice_get new k e'.0 e'.0 e'.1 in
        let origin : numbered_origin (new_numbers t.entries.items) (get_or (filter is_live_entry t.entries.items) k e'.0).origin ≡ o = sym is.origin ∙ ap (λ (e : Entry). e.origin) here ∙ e'.2 in
        let word : word_at T old.0 ≡ get_or (live_words T) k (generator 0) = sym (word_kept T old.0 (generator 0) kept.sound.one_forward_each old.1) ∙ ap (λ n. get_or (live_words T) n (generator 0)) old.2 in
        subst (λ w. IsOriginOf (live_words T) k o w) word
        (subst (λ p. IsOriginOf (live_words T) k p (word_at T old.0)) origin
        (subst (λ n. IsOriginOf (live_words T) n (numbered_origin (new_numbers t.entries.items) (get_or (filter is_live_entry t.entries.items) k e'.0).origin) (word_at T old.0)) old.2
        (origin_kept t kept live old.0 (get_or (filter is_live_entry t.entries.items) k e'.0).origin old.1
        (kept.entries old.0 (get_or (filter is_live_entry t.entries.items) k e'.0) old.3).origin)))

-- they are live
dropped_deaths : (t : Inside) (new : List Entry) → AreDropped t new → All (λ (e : Entry). e.death ≡ 0) new
dropped_deaths t new are k d lt =
    let in' : k < length (filter is_live_entry t.entries.items) = omega (arith, lt, are.count) in
    (are.each k d in').death ∙ eqb-true (get_or (filter is_live_entry t.entries.items) k d).death 0 (filter_passes is_live_entry t.entries.items k d in')

dropped_forwards : (t : Inside) → IsKept t → (fs : List Row) (new : List Entry) → AreDropped t new → forwards_of fs new ≡ map (λ _. None) (live_words (table_of t))
dropped_forwards t kept fs new are =
    same_map (λ (e : Entry). forward_of fs e.death) None new (live_words (table_of t)) (length_dropped t kept new are) (λ k d lt. ap (forward_of fs) (dropped_deaths t new are k d lt))

-- the rows

-- how many ids below are live, counted over entries
live_entries_below : (t : Inside) → IsKept t → (b : ℕ) → count_by is_live_entry (take b t.entries.items) ≡ live_below (table_of t) b
live_entries_below t kept b =
    alive_entries t.forwards.items (take b t.entries.items) ∙ ap alive (sym (take-map (λ (e : Entry). forward_of t.forwards.items e.death) b t.entries.items)) ∙ sym (number_is (table_of t) b kept.sound.one_forward_each)

all_live_entries : (t : Inside) → IsKept t → count_by is_live_entry t.entries.items ≡ length (live_words (table_of t))
all_live_entries t kept = alive_entries t.forwards.items t.entries.items ∙ sym (live_count (table_of t) kept.sound.one_forward_each)

-- the entry of a live id
pub live_entry : (t : Inside) → IsKept t → (b : ℕ) → IsLive (table_of t) b → (e : Entry) × (slice_get t.entries.items b ≡ Some e) × (e.death ≡ 0)
live_entry t kept b is_live =
    let forward : Entry → Option Row = λ e. forward_of t.forwards.items e.death in
    let found = some_back forward (slice_get t.entries.items b) None (sym (slice_get-map forward t.entries.items b) ∙ is_live) in
    (found.0, found.1, live_death t.forwards.items found.0.death found.2)

-- what stands at a live id's new number
pub kept_row : (t : Inside) → IsKept t → (new : List Row) → AreLiveRows (letter_count t.presentation.presentation) t.entries.items t.rows.items new → (b x : ℕ) → IsLive (table_of t) b → x < letter_count t.presentation.presentation
    → get_or new (live_below (table_of t) b * letter_count t.presentation.presentation + x) [] ≡ vector_in (table_of t).rows b x
kept_row t kept new are b x is_live letter =
    let e = live_entry t kept b is_live in
    ap (λ k. get_or new (k * letter_count t.presentation.presentation + x) []) (sym (live_entries_below t kept b)) ∙ are.rows b x e.0 e.1 e.2 letter ∙ rows_agree t kept b x letter

pub can_number_rows : (t : Inside) → IsKept t → NamesLiveIds (table_of t) → (new : List Row) → AreLiveRows (letter_count t.presentation.presentation) t.entries.items t.rows.items new → All (CanNumber (new_numbers t.entries.items)) new
can_number_rows t kept live new are j d lt =
    let T : ActionTable = table_of t in
    let n : ℕ = letter_count t.presentation.presentation in
    let place = at_place n (length (live_words T)) j (omega (arith, lt, are.within, ap (λ k. k * n) (all_live_entries t kept))) in
    let old = old_id T place.0 kept.sound.one_forward_each place.2 in
    let here : get_or new j d ≡ vector_in T.rows old.0 place.1 =
    get_or_default new j d [] lt ∙ ap (λ k. get_or new k []) (place.4 ∙ ap (λ k. k * n + place.1) (sym old.2)) ∙ kept_row t kept new are old.0 place.1 old.1 place.3 in
    subst (CanNumber (new_numbers t.entries.items)) (sym here) (each old.0 place.1 old.1 (row_at T old.0 place.1) refl)
  where
    each : (b x : ℕ) → IsLive (table_of t) b → (o : Option Row) → row_at (table_of t) b x ≡ o → CanNumber (new_numbers t.entries.items) (unwrap_or o [])
    each b x is_live None is = can_number_zero (new_numbers t.entries.items)
    each b x is_live (Some v) is = can_number t kept (presented (table_of t)).prime v (live.rows b x v is_live is) (kept.sound.rows b x v is).stands.row.0

abbrev pub renumbered_rows : List Entry → List Row → List Row
renumbered_rows es new = map (numbered (new_numbers es)) new

few_dropped : (t : Inside) → IsKept t → (new : List Row) → AreLiveRows (letter_count t.presentation.presentation) t.entries.items t.rows.items new
    → length (renumbered_rows t.entries.items new) ≤ length (live_words (table_of t)) * letter_count t.presentation.presentation
few_dropped t kept new are =
    omega (arith, length-map new (numbered (new_numbers t.entries.items)), are.within, ap (λ k. k * letter_count t.presentation.presentation) (all_live_entries t kept))

dropped_agree : (t : Inside) → IsKept t → NamesLiveIds (table_of t) → (new : List Row) → AreLiveRows (letter_count t.presentation.presentation) t.entries.items t.rows.items new
    → Agree (letter_count t.presentation.presentation) (renumbered_rows t.entries.items new) (without_dead (table_of t)).rows
dropped_agree t kept live new are c x letter = by (cases_lt c (length (live_words T)))
  where
    T : ActionTable
    T = table_of t

    n : ℕ
    n = letter_count t.presentation.presentation

    same : length T.forwards ≡ length T.words
    same = kept.sound.one_forward_each

    each : (b : ℕ) → IsLive T b → (o : Option Row) → row_at T b x ≡ o → numbered (new_numbers t.entries.items) (unwrap_or o []) ≡ unwrap_or (option_map (renumbered T) o) []
    each b is_live None is = refl
    each b is_live (Some v) is = vector_numbered t kept v (live.rows b x v is_live is)

    at_live : (b : ℕ) → IsLive T b → get_or (renumbered_rows t.entries.items new) (live_below T b * n + x) [] ≡ vector_in (without_dead T).rows (live_below T b) x
    at_live b is_live =
        get_or-map_default (numbered (new_numbers t.entries.items)) new (live_below T b * n + x) []
        ∙ ap (numbered (new_numbers t.entries.items)) (kept_row t kept new are b x is_live letter) ∙ each b is_live (row_at T b x) refl
        ∙ ap (λ o. unwrap_or o []) (sym (row_kept T b x same kept.sound.one_row_list_each is_live))

    by : (c < length (live_words T)) ⊎ (length (live_words T) ≤ c) → get_or (renumbered_rows t.entries.items new) (c * n + x) [] ≡ vector_in (without_dead T).rows c x
    by (inl lt) = let old = old_id T c same lt in subst (λ k. get_or (renumbered_rows t.entries.items new) (k * n + x) [] ≡ vector_in (without_dead T).rows k x) old.2 (at_live old.0 old.1)
    by (inr past) =
        get_or_past (renumbered_rows t.entries.items new) (c * n + x) [] (omega (arith, few_dropped t kept new are, place_past n (length (live_words T)) c x past))
        ∙ sym (ap (λ o. unwrap_or o []) (no_id (without_dead T).rows c x (omega (arith, past, (sound_dropped T kept.sound live).one_row_list_each))))

pub entries_dropped : (t : Inside) → IsKept t → NamesLiveIds (table_of t) → (new : List Entry) → AreDropped t new → (k : ℕ) (f : Entry) → slice_get new k ≡ Some f → IsEntryOf (without_dead (table_of t)) k f
entries_dropped t kept live new are k f found =
    let T : ActionTable = table_of t in
    let lt : k < length (filter is_live_entry t.entries.items) = omega (arith, are.count, slice_get_within new k f found) in
    let e : Entry = get_or (filter is_live_entry t.entries.items) k f in
    let old = old_entry t kept k f lt in
    let own = kept.entries old.0 e old.3 in
    let is = subst (IsNumbered (new_numbers t.entries.items) e) (get_or_from_slice_get new k f f found) (are.each k f lt) in
    let word : word_at T old.0 ≡ get_or (live_words T) k (generator 0) = sym (word_kept T old.0 (generator 0) kept.sound.one_forward_each old.1) ∙ ap (λ n. get_or (live_words T) n (generator 0)) old.2 in
    record {
      origin = subst (λ w. IsOriginOf (live_words T) k f.origin w) word
          (subst (λ p. IsOriginOf (live_words T) k p (word_at T old.0)) (sym is.origin)
          (subst (λ n. IsOriginOf (live_words T) n (numbered_origin (new_numbers t.entries.items) e.origin) (word_at T old.0)) old.2
          (origin_kept t kept live old.0 e.origin old.1 own.origin)));
      own_reach = is.own_reach ∙ own.own_reach ∙ ap (reach (presented T)) word;
      own_length = is.own_length ∙ own.own_length ∙ ap word_length word;
    }

-- reaches of the live ids rise still
pub dropped_rises : (t : Inside) → IsKept t → NamesLiveIds (table_of t) → (new : List Entry) → AreDropped t new → HasRisingReaches new
dropped_rises t kept live new are = rising_entries (without_dead (table_of t)) new (sound_dropped (table_of t) kept.sound live) (length_dropped t kept new are) (entries_dropped t kept live new are)

dropped_below : (t : Inside) → IsKept t → NamesLiveIds (table_of t) → (new : List Entry) → AreDropped t new → (bounds : List ℕ) → AreBounds t.presentation.presentation.weights t.level new bounds
    → AreBelow (letter_count t.presentation.presentation) (length new) bounds (without_dead (table_of t)).rows
dropped_below t kept live new are bounds bounds_are = below_due (without_dead (table_of t)) new bounds (sound_dropped (table_of t) kept.sound live) (length_dropped t kept new are) (entries_dropped t kept live new are) bounds_are

pub dropped : (t : Inside) → IsKept t → NamesLiveIds (table_of t) → (entries : List Entry) (rows forwards : List Row) (bounds : List ℕ) → AreDropped t entries → AreLiveRows (letter_count t.presentation.presentation) t.entries.items t.rows.items rows
    → AreBounds t.presentation.presentation.weights t.level entries bounds
    → tabled t.presentation t.level (map (numbered (new_numbers t.entries.items)) t.images.items) bounds (renumbered_rows t.entries.items rows) forwards entries ≡ without_dead (table_of t)
dropped t kept live entries rows forwards bounds are are_rows bounds_are =
    let sound = sound_dropped (table_of t) kept.sound live in
    let n : ℕ = letter_count t.presentation.presentation in
    rw (
      dropped_words t kept live entries are,
      dropped_forwards t kept forwards entries are,
      listed_is n (length entries) bounds (renumbered_rows t.entries.items rows) (without_dead (table_of t)).rows (sound.one_row_list_each ∙ sym (length_dropped t kept entries are)) sound.one_place_each
          (dropped_agree t kept live rows are_rows) (dropped_below t kept live entries are bounds bounds_are),
      map_same (numbered (new_numbers t.entries.items)) (renumbered (table_of t)) t.images.items (λ k d lt. vector_numbered t kept (get_or t.images.items k d) (live.images k d lt)),
    )
    refl

-- a row that is due has a place among those of the live ids
module _ (t : Inside) (kept : IsKept t) (live : NamesLiveIds (table_of t)) (entries : List Entry) (rows : List Row) (bounds : List ℕ) (are : AreDropped t entries)
    (are_rows : AreLiveRows (letter_count t.presentation.presentation) t.entries.items t.rows.items rows) (bounds_are : AreBounds t.presentation.presentation.weights t.level entries bounds) where
  abbrev n : ℕ
  n = letter_count t.presentation.presentation

  pub dropped_places : (c x : ℕ) → x < n → c < get_or bounds x 0 → c * n + x < length (renumbered_rows t.entries.items rows)
  dropped_places c x letter lt =
      let T : ActionTable = table_of t in
      let same : length T.forwards ≡ length T.words = kept.sound.one_forward_each in
      let within = bounds_are.within x 0 (omega (arith, letter, bounds_are.count, kept.sound.valid.presentation.one_weight_each)) in
      let id : c < length entries = omega (arith, lt, within) in
      let old = old_id T c same (omega (arith, id, length_dropped t kept entries are)) in
      let some : IsSome (row_at (without_dead T) c x) = (dropped_below t kept live entries are bounds bounds_are c x id letter).1 lt in
      let there : IsSome (row_at T old.0 x) =
      sym (is_some-map (renumbered T) (row_at T old.0 x)) ∙ ap is_some (sym (row_kept T old.0 x same kept.sound.one_row_list_each old.1)) ∙ ap (λ k. is_some (row_at (without_dead T) k x)) old.2 ∙ some in
      let place : old.0 * n + x < length t.rows.items = kept.places old.0 x letter (row_bounded t old.0 x there) in
      let e = live_entry t kept old.0 old.1 in
      let inside : count_by is_live_entry (take old.0 t.entries.items) * n + x < length rows = are_rows.places old.0 x e.0 e.1 e.2 letter place in
      omega (arith, inside, length-map rows (numbered (new_numbers t.entries.items)), ap (λ k. k * n) (live_entries_below t kept old.0 ∙ old.2))

  pub dropped_zero : (c x : ℕ) → x < n → get_or bounds x 0 ≤ c → get_or (renumbered_rows t.entries.items rows) (c * n + x) [] ≡ []
  dropped_zero =
      zero_past n (length entries) bounds (renumbered_rows t.entries.items rows) (without_dead (table_of t)).rows ((sound_dropped (table_of t) kept.sound live).one_row_list_each ∙ sym (length_dropped t kept entries are))
      (dropped_agree t kept live rows are_rows) (dropped_below t kept live entries are bounds bounds_are)

  pub kept_dropped : (u : Inside) → u.entries.items ≡ entries → u.rows.items ≡ renumbered_rows t.entries.items rows → u.bounds.items ≡ bounds → table_of u ≡ without_dead (table_of t) → u.live ≡ t.live → u.forwards.items ≡ [] → min t.live (vec_capacity t.forwards) ≤ vec_capacity u.forwards → u.presentation ≡ t.presentation → u.reaches ≡ t.reaches → IsKept u
  kept_dropped u entries_are rows_are ks_are same live_same none room presentation reaches = record {
    sound = subst IsSound (sym same) (sound_dropped (table_of t) kept.sound live);
    entries = λ b e found. subst (λ U. IsEntryOf U b e) (sym same) (entries_dropped t kept live entries are b e (subst (λ l. slice_get l b ≡ Some e) entries_are found));
    count = omega (arith, ap length entries_are, kept.count, entries_within t entries are);
    few_places =
        let few : length u.rows.items ≤ length u.entries.items * n = omega (arith, ap length rows_are, few_dropped t kept rows are_rows, ap (λ k. k * n) (ap length entries_are ∙ length_dropped t kept entries are)) in
        subst (λ m. length u.rows.items ≤ length u.entries.items * m) (sym letters) few;
    places = subst (λ (ks : List ℕ). (b x : ℕ) → x < letter_count u.presentation.presentation → b < get_or ks x 0 → b * letter_count u.presentation.presentation + x < length u.rows.items) (sym ks_are)
        (subst (λ (l : List Row). (b x : ℕ) → x < letter_count u.presentation.presentation → b < get_or bounds x 0 → b * letter_count u.presentation.presentation + x < length l) (sym rows_are)
        (subst (λ m. (b x : ℕ) → x < m → b < get_or bounds x 0 → b * m + x < length (renumbered_rows t.entries.items rows)) (sym letters) dropped_places));
    rest = subst (λ (ks : List ℕ). (b x : ℕ) → x < letter_count u.presentation.presentation → get_or ks x 0 ≤ b → get_or u.rows.items (b * letter_count u.presentation.presentation + x) [] ≡ []) (sym ks_are)
        (subst (λ (l : List Row). (b x : ℕ) → x < letter_count u.presentation.presentation → get_or bounds x 0 ≤ b → get_or l (b * letter_count u.presentation.presentation + x) [] ≡ []) (sym rows_are)
        (subst (λ m. (b x : ℕ) → x < m → get_or bounds x 0 ≤ b → get_or (renumbered_rows t.entries.items rows) (b * m + x) [] ≡ []) (sym letters) dropped_zero));
    one_bound_each = ap length ks_are ∙ bounds_are.count ∙ kept.sound.valid.presentation.one_weight_each ∙ sym letters;
    bounds = subst (λ (ks : List ℕ). All (λ bound. bound ≤ length u.entries.items) ks) (sym ks_are) (subst (λ l. All (λ bound. bound ≤ length l) bounds) (sym entries_are) bounds_are.within);
    live_count = live_same ∙ kept.live_count ∙ ap length (sym (all_live (map absent (live_words (table_of t))) (live_words (table_of t)) (nones (live_words (table_of t))) (length-map (live_words (table_of t)) absent))) ∙ ap (λ U. length (live_words U)) (sym same);
    own_forwards =
        keeps_live u.entries.items u.live u.forwards (subst (All (λ (e : Entry). e.death ≡ 0)) (sym entries_are) (dropped_deaths t entries are)) none
        (live_same ∙ kept.live_count ∙ sym (length_dropped t kept entries are) ∙ sym (ap length entries_are))
        (omega (arith, ap length entries_are, entries_within t entries are, kept.own_forwards.room, kept.live_count, length_dropped t kept entries are, room));
    own_reaches = subst (λ d. AreReaches d.presentation u.reaches) (sym presentation) (subst (λ r. AreReaches t.presentation.presentation r) (sym reaches) kept.own_reaches);
  }
    where
      absent : Word → Option Row
      absent w = None

      letters : letter_count u.presentation.presentation ≡ n
      letters = ap (λ (d : Draft). letter_count d.presentation) presentation

-- the same by what the steps say
pub dropped_entries : (t : Inside) (numbers : List ℕ) (cut new : List Entry) → numbers ≡ new_numbers t.entries.items → cut ≡ filter is_live_entry t.entries.items → AreNumbered numbers cut new → AreDropped t new
dropped_entries t numbers cut new numbers_are cut_is are =
    subst (λ n. AreNumbered n (filter is_live_entry t.entries.items) new) numbers_are (subst (λ l. AreNumbered numbers l new) cut_is are)

pub live_rows : (t : Inside) → IsKept t → (letters : ℕ) (entries : List Entry) (new : List Row) → letters ≡ length t.presentation.presentation.weights → entries ≡ t.entries.items → AreLiveRows letters entries t.rows.items new
    → AreLiveRows (letter_count t.presentation.presentation) t.entries.items t.rows.items new
live_rows t kept letters entries new letters_are entries_are are =
    subst (λ n. AreLiveRows n t.entries.items t.rows.items new) (letters_are ∙ kept.sound.valid.presentation.one_weight_each) (subst (λ l. AreLiveRows letters l t.rows.items new) entries_are are)

-- the table after the steps
pub dropped_view : (t : Inside) → IsKept t → NamesLiveIds (table_of t) → (entries : List Entry) (kept_rows rows forwards images : List Row) (bounds : List ℕ) → AreDropped t entries
    → AreLiveRows (letter_count t.presentation.presentation) t.entries.items t.rows.items kept_rows → AreBounds t.presentation.presentation.weights t.level entries bounds → rows ≡ renumbered_rows t.entries.items kept_rows
    → images ≡ map (numbered (new_numbers t.entries.items)) t.images.items → tabled t.presentation t.level images bounds rows forwards entries ≡ without_dead (table_of t)
dropped_view t kept live entries kept_rows rows forwards images bounds are are_rows bounds_are rows_are images_are =
    ap₂ (λ l r. tabled t.presentation t.level l bounds r forwards entries) images_are rows_are ∙ dropped t kept live entries kept_rows forwards bounds are are_rows bounds_are
