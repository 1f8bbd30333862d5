-- The fields of a table that grows by a level.
use Rattle.std.proofs.Common.{◌≡◌, ℕ, ◌+◌, ◌*◌, ◌<◌, ◌≤◌, ◌^◌, ◌-◌, ◌⊎◌, inl, inr, Some, None, List, [], ◌++◌, length, map, max, get_or, refl, sym, ap, ap₂, subst, ◌∙◌, arith}
use Rattle.std.specs.Prelude.{Option, All, slice_get, sum_by}
use Rattle.std.specs.Vec.{vec_capacity}
use Rattle.std.proofs.Math.Nat.{mul-le-mul_right}
use Rattle.std.proofs.lemmas.Bool.{cases_lt}
use Rattle.std.proofs.lemmas.Option.{slice_get_within, slice_get-get_or, slice_get-map, get_or_from_slice_get}
use Rattle.std.proofs.lemmas.List.{length-map, length-append, get_or_append_left, get_or_default, get_or-map}
use Rattle.std.proofs.lemmas.List.Elements.{All-append, All-map}
use Rattle.ve_pres.specs.Drafts.{Draft}
use Rattle.ve_theory.specs.Words.{Word, generator, times, word_length, word_weight}
use Rattle.ve_theory.specs.Presentations.{Presentation, reach, before, letter_count}
use Rattle.ve_theory.specs.Laws.{LevelsGrow, HasBounds}
use Rattle.ve_theory.specs.Levels.{steps_to}
use Rattle.ve_theory.specs.Answers.{Row}
use Rattle.ve_lemmas.proofs.Words.{length-generator}
use Rattle.ve_lemmas.proofs.Weights.{reach-times}
use Rattle.ve_table.specs.declared.origin.Origin.{Origin}
use Rattle.ve_table.specs.declared.entry.Entry.{Entry}
use Rattle.ve_table.specs.declared.birth.Birth.{Birth}
use Rattle.ve_table.specs.declared.table.Table.TheInside.{Inside}
use Rattle.ve_table.specs.Books.{words_of, IsOriginOf}
use Rattle.ve_table.specs.Tables.{ActionTable, presented, word_at, live_words}
use Rattle.ve_table.specs.Sound.{IsSound}
use Rattle.ve_table.specs.Changes.{Grows, next_count}
use Rattle.ve_table.specs.Reaches.{AreReaches}
use Rattle.ve_table.specs.Rows.{listed, AreBounds, with_births_from}
use Rattle.ve_table.specs.Steps.{HasRisingReaches}
use Rattle.ve_table.specs.Kept.{table_of, IsEntryOf, IsKept}
use Rattle.ve_table.specs.Births.{IsWeightedBook, AreBirths}
use Rattle.ve_table.specs.Growth.{CanDefine, entry_of_birth}
use Rattle.ve_table.proofs.Deaths.{keeps_as, keeps_live, no_forwards, no_deaths}
use Rattle.ve_table.proofs.Entries.{tabled, one_entry_each, rows_agree, rows_below, below_due, zero_past}
use Rattle.ve_table.proofs.Listed.{Agree, AreBelow, place_below, listed_is}
use Rattle.ve_table.proofs.Stepping.{rising_entries}
use Rattle.ve_table.proofs.Opening.{all_live}
use Rattle.ve_table.proofs.Spelling.{words_are}
use Rattle.ve_table.proofs.Dropping.{some_back}
use Rattle.ve_table.proofs.Comparing.{length_times}
use Rattle.ve_table.proofs.Birthing.{positive_letter, weight_times}
use Rattle.ve_table.proofs.Growing.{rows_with, HasWideRows, count_with_births, born_agrees, origin_of, after_births, born_forwards, born_origins, count_born, slice_join, origin_longer, birth_origin}
use Rattle.ve_table.proofs.NextLevel.{born_word, IsNext, AreNext, with_births, births_differ, word_new, count_new, not_before_itself, sound_grown, grows}
use Rattle.ve_table.proofs.Counting.{births_counted}

-- the book of a table

pub weighted_book : (t : Inside) → IsKept t → IsWeightedBook t.presentation.presentation.weights t.entries.items
weighted_book t kept = record {
  book = record {
    count = sym (one_entry_each t kept);
    origins = λ b e found. (kept.entries b e found).origin;
    lengths = λ b e found. (kept.entries b e found).own_length;
    distinct = λ i j d lt within equal.
        not_before_itself t.presentation.presentation.weights (get_or (table_of t).words j d)
        (subst (λ w. before t.presentation.presentation w (get_or (table_of t).words j d)) equal (kept.sound.rising i j d lt within));
  };
  positive = λ k d lt. (kept.sound.valid.presentation.weights k d lt).0;
  weighed = λ b e found. (kept.entries b e found).own_reach;
  rising = kept.sound.rising;
}

pub next_births : (t : Inside) → IsKept t → (level : ℕ) (bs : List Birth) → level ≡ t.level + 1 → AreBirths t.presentation.presentation.weights t.entries.items level 17 bs → AreNext (table_of t) bs
next_births t kept level bs level_is are = record {
  rising = are.rising;
  only = λ k d lt.
      let b = (are.only k d lt).0 in
      record { parent = omega (arith, b.parent, one_entry_each t kept); letter = omega (arith, b.letter, kept.sound.valid.presentation.one_weight_each); reaches = b.reaches ∙ level_is };
  every = λ b next.
      let inside : b.letter < length t.presentation.presentation.weights = omega (arith, next.letter, kept.sound.valid.presentation.one_weight_each) in
      are.every b (record { parent = omega (arith, next.parent, one_entry_each t kept); letter = inside; reaches = next.reaches ∙ sym level_is })
      (let small = (kept.sound.valid.presentation.weights b.letter 1 inside).1 in omega (arith, small));
}

-- further places change nothing that is seen

pub same_view : (t : Inside) → IsKept t → (rows : List Row) → ((k : ℕ) → get_or rows k [] ≡ get_or t.rows.items k [])
    → tabled t.presentation t.level t.images.items t.bounds.items rows t.forwards.items t.entries.items ≡ table_of t
same_view t kept rows same =
    ap (λ (r : List (List (Option Row))). record (table_of t) { rows = r })
    (listed_is (letter_count t.presentation.presentation) (length t.entries.items) t.bounds.items rows (table_of t).rows (kept.sound.one_row_list_each ∙ sym (one_entry_each t kept)) kept.sound.one_place_each
    (λ b x letter. same (b * letter_count t.presentation.presentation + x) ∙ rows_agree t kept b x letter) (rows_below t))

pub kept_with_room : (t u : Inside) → IsKept t → length u.rows.items ≤ length t.entries.items * letter_count t.presentation.presentation → length t.rows.items ≤ length u.rows.items → ((k : ℕ) → get_or u.rows.items k [] ≡ get_or t.rows.items k [])
    → u.bounds.items ≡ t.bounds.items → u.entries.items ≡ t.entries.items → u.presentation ≡ t.presentation → table_of u ≡ table_of t → u.live ≡ t.live → u.forwards.items ≡ t.forwards.items
    → length t.entries.items ≤ vec_capacity u.forwards → AreReaches t.presentation.presentation u.reaches → IsKept u
kept_with_room t u kept few more same_rows bounds entries presentation same live forwards room reaches = record {
  sound = subst IsSound (sym same) kept.sound;
  entries = λ b e found. subst (λ U. IsEntryOf U b e) (sym same) (kept.entries b e (subst (λ l. slice_get l b ≡ Some e) entries found));
  count = omega (arith, kept.count, ap length entries);
  few_places = subst (λ l. length u.rows.items ≤ length l * letter_count u.presentation.presentation) (sym entries) (subst (λ d. length u.rows.items ≤ length t.entries.items * letter_count d.presentation) (sym presentation) few);
  places = subst (λ (bs : List ℕ). (b x : ℕ) → x < letter_count u.presentation.presentation → b < get_or bs x 0 → b * letter_count u.presentation.presentation + x < length u.rows.items) (sym bounds)
      (subst (λ n. (b x : ℕ) → x < n → b < get_or t.bounds.items x 0 → b * n + x < length u.rows.items) (sym letters) (λ b x letter lt. let inside = kept.places b x letter lt in omega (arith, inside, more)));
  rest = subst (λ (bs : List ℕ). (b x : ℕ) → x < letter_count u.presentation.presentation → get_or bs x 0 ≤ b → get_or u.rows.items (b * letter_count u.presentation.presentation + x) [] ≡ []) (sym bounds)
      (subst (λ n. (b x : ℕ) → x < n → get_or t.bounds.items x 0 ≤ b → get_or u.rows.items (b * n + x) [] ≡ []) (sym letters)
      (λ b x letter past. same_rows (b * letter_count t.presentation.presentation + x) ∙ kept.rest b x letter past));
  one_bound_each = ap length bounds ∙ kept.one_bound_each ∙ sym letters;
  bounds = subst (λ (bs : List ℕ). All (λ bound. bound ≤ length u.entries.items) bs) (sym bounds) (subst (λ l. All (λ bound. bound ≤ length l) t.bounds.items) (sym entries) kept.bounds);
  live_count = live ∙ kept.live_count ∙ ap (λ U. length (live_words U)) (sym same);
  own_forwards = keeps_as t.entries.items u.entries.items t.live u.live t.forwards u.forwards kept.own_forwards entries live forwards room;
  own_reaches = subst (λ d. AreReaches d.presentation u.reaches) (sym presentation) reaches;
}
  where
    letters : letter_count u.presentation.presentation ≡ letter_count t.presentation.presentation
    letters = ap (λ (d : Draft). letter_count d.presentation) presentation

-- what defining asks for

short_words : (weights : List ℕ) (w : Word) → All (λ w. 0 < w) weights → word_length w ≤ word_weight weights w
short_words weights (generator i) positive = omega (arith, length-generator i)
short_words weights (times w x) positive = omega (arith, short_words weights w positive, length_times w x, weight_times weights w x, positive_letter weights x positive)

pub short_entry : (t : Inside) → IsKept t → (b : ℕ) (d : Entry) → b < length t.entries.items → (get_or t.entries.items b d).length ≤ t.level
short_entry t kept b d lt =
    let own = kept.entries b (get_or t.entries.items b d) (slice_get-get_or t.entries.items b d lt) in
    let within = kept.sound.words b (generator 0) (omega (arith, lt, one_entry_each t kept)) in
    omega (arith, own.own_length, within.1, short_words t.presentation.presentation.weights (word_at (table_of t) b) (λ k d lt. (kept.sound.valid.presentation.weights k d lt).0))

-- how many there are

pub all_words_live : (t : Inside) → IsKept t → All (λ f. f ≡ None) (table_of t).forwards → live_words (table_of t) ≡ (table_of t).words
all_words_live t kept live = all_live (table_of t).forwards (table_of t).words live kept.sound.one_forward_each

pub births_within : (t : Inside) → IsKept t → (bs : List Birth) → All (λ f. f ≡ None) (table_of t).forwards → AreNext (table_of t) bs → length t.entries.items + length bs ≤ next_count (table_of t)
births_within t kept bs live are =
    let T : ActionTable = table_of t in
    let P : Presentation = t.presentation.presentation in
    let counted = births_counted P (t.level + 1) T.words bs (generator 0) (births_differ T bs are)
    (λ k d lt. let next = are.only k d lt in
    let inside : (get_or bs k d).letter < length P.weights = omega (arith, next.letter, kept.sound.valid.presentation.one_weight_each) in
    (next.parent, inside, omega (arith, next.reaches, reach-times P (word_at T (get_or bs k d).parent) (get_or bs k d).letter, get_or_default P.weights (get_or bs k d).letter 0 1 inside))) in
    let words = all_words_live t kept live in
    let same : next_count T ≡ length T.words + sum_by (steps_to P (t.level + 1)) T.words = ap (λ ws. length ws + sum_by (steps_to P (t.level + 1)) ws) words in
    omega (arith, counted, same, one_entry_each t kept)

pub live_grown : (T : ActionTable) (bs : List Birth) (live : ℕ) → All (λ f. f ≡ None) T.forwards → length T.forwards ≡ length T.words → live ≡ length (live_words T) → live + length bs ≡ length (live_words (with_births T bs))
live_grown T bs live all same count =
    let none : Birth → Option Row = λ _. None in
    let before : live_words T ≡ T.words = all_live T.forwards T.words all same in
    let after : live_words (with_births T bs) ≡ T.words ++ map (born_word T) bs =
    all_live (T.forwards ++ map none bs) (T.words ++ map (born_word T) bs) (All-append (λ f. f ≡ None) T.forwards (map none bs) all (All-map (λ f. f ≡ None) none bs (λ k d lt. refl)))
    (length-append T.forwards (map none bs) ∙ ap₂ (λ m n. m + n) same (length-map bs none) ∙ sym (count_new T bs)) in
    omega (arith, count, ap length before, ap length after, count_new T bs)

-- the view after all births

-- one step of growth: births of a table whose ids are live
pub record IsStep (t : Inside) (bs : List Birth) : Type 0 where
  pub kept : IsKept t
  pub live : All (λ f. f ≡ None) (table_of t).forwards
  pub births : AreNext (table_of t) bs

-- the list of rows has a place for each id and letter
pub record HasPlaces (t : Inside) (rows : List Row) : Type 0 where
  pub same : (k : ℕ) → get_or rows k [] ≡ get_or t.rows.items k []
  pub many : length t.entries.items * letter_count t.presentation.presentation ≤ length rows
  pub few : length rows ≤ length t.entries.items * letter_count t.presentation.presentation

-- places that were taken
module _ (t : Inside) (kept : IsKept t) (ids letters : ℕ) (ids_are : ids ≡ length t.entries.items) (letters_are : letters ≡ length t.presentation.presentation.weights) (rows : List Row)
    (within : length rows ≤ max (length t.rows.items) (ids * letters)) (same : (k : ℕ) → get_or rows k [] ≡ get_or t.rows.items k []) where
  count : ids * letters ≡ length t.entries.items * letter_count t.presentation.presentation
  count = ap₂ (λ a b. a * b) ids_are (letters_are ∙ kept.sound.valid.presentation.one_weight_each)

  pub few_taken : length rows ≤ length t.entries.items * letter_count t.presentation.presentation
  few_taken = omega (arith, within, count, kept.few_places)

  pub places_taken : ids * letters ≤ length rows → HasPlaces t rows
  places_taken many = record { same = same; many = omega (arith, many, count); few = few_taken }

module _ (t : Inside) (bs : List Birth) (step : IsStep t bs) where
  abbrev T : ActionTable
  T = table_of t

  abbrev n : ℕ
  n = letter_count t.presentation.presentation

  abbrev es : List Entry
  es = t.entries.items

  abbrev born : List Entry
  born = after_births (t.level + 1) bs es

  words_counted : length T.words ≡ length es
  words_counted = sym (one_entry_each t step.kept)

  pub wide_rows : HasWideRows t.presentation.presentation.names (length T.words) T.rows bs
  wide_rows = record {
    count = step.kept.sound.one_row_list_each;
    wide = step.kept.sound.one_place_each;
    births = λ k d lt. let next = step.births.only k d lt in (next.parent, next.letter);
  }

  pub places_fit : (rows : List Row) → HasPlaces t rows → All (λ (b : Birth). b.parent * n + b.letter < length rows) bs
  places_fit rows has k d lt =
      let next = step.births.only k d lt in
      omega (arith, place_below n (get_or bs k d).parent (length es) (get_or bs k d).letter (omega (arith, next.parent, words_counted)) next.letter, has.many)

  pub can_define : t.level + 1 < 2 ^ 32 → All (CanDefine es) bs
  can_define short k d lt =
      let next = step.births.only k d lt in
      let parent : (get_or bs k d).parent < length es = omega (arith, next.parent, words_counted) in
      record { parent = parent; longer = λ e. omega (arith, short_entry t step.kept (get_or bs k d).parent e parent, short) }

  pub ids_fit : length es + length bs ≤ next_count T
  ids_fit = births_within t step.kept bs step.live step.births

  -- nothing stands for any id
  all_counted : t.live ≡ length es
  all_counted = step.kept.live_count ∙ ap length (all_words_live t step.kept step.live) ∙ words_counted

  all_alive : t.forwards.items ≡ []
  all_alive = no_forwards es t.live t.forwards step.kept.own_forwards all_counted

  deaths : All (λ (e : Entry). e.death ≡ 0) born
  deaths =
      All-append (λ (e : Entry). e.death ≡ 0) es (map (entry_of_birth (t.level + 1) es) bs) (no_deaths es t.live t.forwards step.kept.own_forwards all_counted)
      (All-map (λ (e : Entry). e.death ≡ 0) (entry_of_birth (t.level + 1) es) bs (λ k d lt. refl))

  grown_origin : (c : ℕ) (o : Origin) → slice_get (map (λ (e : Entry). e.origin) born) c ≡ Some o → IsOriginOf (T.words ++ map (born_word T) bs) c o (get_or (T.words ++ map (born_word T) bs) c (generator 0))
  grown_origin c o found = at (slice_join (map (λ (e : Entry). e.origin) es) (map origin_of bs) c o (subst (λ l. slice_get l c ≡ Some o) (born_origins (t.level + 1) bs es) found))
    where
      more : List Word
      more = map (born_word T) bs

      at : (slice_get (map (λ (e : Entry). e.origin) es) c ≡ Some o) ⊎ ((k : ℕ) × (c ≡ length (map (λ (e : Entry). e.origin) es) + k) × (slice_get (map origin_of bs) k ≡ Some o))
          → IsOriginOf (T.words ++ more) c o (get_or (T.words ++ more) c (generator 0))
      at (inl there) =
          let old = some_back (λ (e : Entry). e.origin) (slice_get es c) o (sym (slice_get-map (λ (e : Entry). e.origin) es c) ∙ there) in
          let lt : c < length T.words = omega (arith, words_counted, slice_get_within es c old.0 old.1) in
          subst (IsOriginOf (T.words ++ more) c o) (sym (get_or_append_left T.words more (generator 0) c lt))
          (origin_longer T.words more c o (word_at T c) (omega (arith, lt)) (subst (λ p. IsOriginOf T.words c p (word_at T c)) old.2 (step.kept.entries c old.0 old.1).origin))
      at (inr new) =
          let old = some_back origin_of (slice_get bs new.0) o (sym (slice_get-map origin_of bs new.0) ∙ new.2) in
          let b : Birth = old.0 in
          let inside : new.0 < length bs = slice_get_within bs new.0 b old.1 in
          let here : get_or bs new.0 b ≡ b = get_or_from_slice_get bs new.0 b b old.1 in
          let parent : b.parent < length T.words = subst (λ (b : Birth). b.parent < length T.words) here (step.births.only new.0 b inside).parent in
          let c_is : c ≡ length T.words + new.0 = omega (arith, new.1, length-map es (λ (e : Entry). e.origin), words_counted) in
          let word : get_or (T.words ++ more) c (generator 0) ≡ born_word T b = ap (λ n. get_or (T.words ++ more) n (generator 0)) c_is ∙ word_new T bs new.0 (generator 0) b inside ∙ ap (born_word T) here in
          subst (λ p. IsOriginOf (T.words ++ more) c p (get_or (T.words ++ more) c (generator 0))) old.2
          (birth_origin T.words more c b (get_or (T.words ++ more) c (generator 0)) parent (omega (arith, parent, c_is)) word)

  grown_words : words_of (map (λ (e : Entry). e.origin) born) ≡ T.words ++ map (born_word T) bs
  grown_words =
      words_are (T.words ++ map (born_word T) bs) (map (λ (e : Entry). e.origin) born)
      (length-map born (λ (e : Entry). e.origin) ∙ count_born (t.level + 1) bs es ∙ ap (λ n. n + length bs) (sym words_counted) ∙ sym (count_new T bs)) grown_origin

  -- the entries after all births
  entry_grown : (c : ℕ) (f : Entry) → slice_get born c ≡ Some f → IsEntryOf (with_births T bs) c f
  entry_grown c f found = at (slice_join es (map (entry_of_birth (t.level + 1) es) bs) c f found)
    where
      more : List Word
      more = map (born_word T) bs

      at : (slice_get es c ≡ Some f) ⊎ ((k : ℕ) × (c ≡ length es + k) × (slice_get (map (entry_of_birth (t.level + 1) es) bs) k ≡ Some f)) → IsEntryOf (with_births T bs) c f
      at (inl old) =
          let is = step.kept.entries c f old in
          let lt : c < length T.words = omega (arith, words_counted, slice_get_within es c f old) in
          let word : get_or (T.words ++ more) c (generator 0) ≡ word_at T c = get_or_append_left T.words more (generator 0) c lt in
          record {
            origin = subst (IsOriginOf (T.words ++ more) c f.origin) (sym word) (origin_longer T.words more c f.origin (word_at T c) (omega (arith, lt)) is.origin);
            own_reach = is.own_reach ∙ ap (reach (presented T)) (sym word);
            own_length = is.own_length ∙ ap word_length (sym word);
          }
      at (inr new) =
          let old = some_back (entry_of_birth (t.level + 1) es) (slice_get bs new.0) f (sym (slice_get-map (entry_of_birth (t.level + 1) es) bs new.0) ∙ new.2) in
          let b : Birth = old.0 in
          let inside : new.0 < length bs = slice_get_within bs new.0 b old.1 in
          let is = subst (IsNext T) (get_or_from_slice_get bs new.0 b b old.1) (step.births.only new.0 b inside) in
          let c_is : c ≡ length T.words + new.0 = omega (arith, new.1, words_counted) in
          let word : get_or (T.words ++ more) c (generator 0) ≡ born_word T b =
          ap (λ n. get_or (T.words ++ more) n (generator 0)) c_is ∙ word_new T bs new.0 (generator 0) b inside ∙ ap (born_word T) (get_or_from_slice_get bs new.0 b b old.1) in
          let parent_lt : b.parent < length es = omega (arith, is.parent, words_counted) in
          let parent_length : get_or (map (λ (e : Entry). e.length) es) b.parent 0 ≡ word_length (word_at T b.parent) =
          get_or-map (λ (e : Entry). e.length) es b.parent f 0 parent_lt ∙ (step.kept.entries b.parent (get_or es b.parent f) (slice_get-get_or es b.parent f parent_lt)).own_length in
          subst (λ e. IsEntryOf (with_births T bs) c e) old.2
          (record {
            origin = birth_origin T.words more c b (get_or (T.words ++ more) c (generator 0)) is.parent (omega (arith, is.parent, c_is)) word;
            own_reach = sym is.reaches ∙ ap (reach (presented T)) (sym word);
            own_length = ap (λ n. n + 1) parent_length ∙ sym (length_times (word_at T b.parent) b.letter) ∙ ap word_length (sym word);
          })

  pub step_sound : LevelsGrow → HasBounds t.presentation.presentation → IsSound (with_births T bs)
  step_sound grow bounds = sound_grown T bs step.kept.sound grow bounds wide_rows step.live step.births

  pub step_grows : Grows T (with_births T bs)
  step_grows = grows T bs step.kept.sound wide_rows step.live step.births

  count_after : length born ≡ length (with_births T bs).words
  count_after = count_born (t.level + 1) bs es ∙ ap (λ n. n + length bs) (sym words_counted) ∙ sym (count_new T bs)

  -- ids rise by reach still
  pub step_rises : LevelsGrow → HasBounds t.presentation.presentation → HasRisingReaches born
  step_rises grow bounds = rising_entries (with_births T bs) born (step_sound grow bounds) count_after entry_grown

  module _ (grow : LevelsGrow) (bounds : HasBounds t.presentation.presentation) (news : List ℕ) (are : AreBounds t.presentation.presentation.weights (t.level + 1) born news) (rows : List Row) (has : HasPlaces t rows) where
    units_agree : Agree n (with_births_from n (length es) rows bs) (with_births T bs).rows
    units_agree =
        let wide = subst (λ m. HasWideRows t.presentation.presentation.names m T.rows bs) words_counted wide_rows in
        let agree : Agree n rows T.rows = λ b x letter. has.same (b * n + x) ∙ rows_agree t step.kept b x letter in
        subst (λ m. Agree n (with_births_from n (length es) rows bs) (rows_with t.presentation.presentation.names m T.rows bs)) (sym words_counted)
        (born_agrees t.presentation.presentation.names (length es) rows T.rows bs wide agree (places_fit rows has))

    units_below : AreBelow n (length born) news (with_births T bs).rows
    units_below = below_due (with_births T bs) born news (step_sound grow bounds) count_after entry_grown are

    pub step_view : (units forwards : List Row) (gs : List Entry) → units ≡ with_births_from n (length es) rows bs → forwards ≡ [] → gs ≡ born → tabled t.presentation (t.level + 1) t.images.items news units forwards gs ≡ with_births T bs
    step_view units forwards gs units_are none gs_are =
        let sound = step_sound grow bounds in
        let same : listed n (length born) news (with_births_from n (length es) rows bs) ≡ (with_births T bs).rows =
        listed_is n (length born) news (with_births_from n (length es) rows bs) (with_births T bs).rows (sound.one_row_list_each ∙ sym count_after) sound.one_place_each units_agree units_below in
        rw (units_are, none ∙ sym all_alive, gs_are, grown_words, born_forwards (t.level + 1) bs es t.forwards.items, same) refl

    pub step_kept : (u : Inside) → next_count T < 2 ^ 32 → u.rows.items ≡ with_births_from n (length es) rows bs → u.bounds.items ≡ news → u.entries.items ≡ born → table_of u ≡ with_births T bs → u.presentation ≡ t.presentation
        → u.live ≡ t.live + length bs → u.forwards.items ≡ [] → vec_capacity u.forwards ≡ length es + length bs → u.reaches ≡ t.reaches → IsKept u
    step_kept u few units_are news_are entries_are same presentation live none room reaches = record {
      sound = subst IsSound (sym same) (step_sound grow bounds);
      entries = λ b e found. subst (λ U. IsEntryOf U b e) (sym same) (entry_grown b e (subst (λ l. slice_get l b ≡ Some e) entries_are found));
      count = omega (arith, ap length entries_are, count_born (t.level + 1) bs es, ids_fit, few);
      few_places =
          let more : length es * n ≤ length u.entries.items * n = mul-le-mul_right n (omega (arith, ap length entries_are, count_born (t.level + 1) bs es)) in
          let few : length u.rows.items ≤ length u.entries.items * n = omega (arith, count, has.few, more) in
          subst (λ m. length u.rows.items ≤ length u.entries.items * m) (sym letters) few;
      places = subst (λ (ks : List ℕ). (b x : ℕ) → x < letter_count u.presentation.presentation → b < get_or ks x 0 → b * letter_count u.presentation.presentation + x < length u.rows.items) (sym news_are)
          (subst (λ m. (b x : ℕ) → x < m → b < get_or news x 0 → b * m + x < length u.rows.items) (sym letters)
          (λ b x letter lt. omega (arith, place_below n b (length es) x (old_id b x letter lt) letter, has.many, count)));
      rest = subst (λ (ks : List ℕ). (b x : ℕ) → x < letter_count u.presentation.presentation → get_or ks x 0 ≤ b → get_or u.rows.items (b * letter_count u.presentation.presentation + x) [] ≡ []) (sym news_are)
          (subst (λ m. (b x : ℕ) → x < m → get_or news x 0 ≤ b → get_or u.rows.items (b * m + x) [] ≡ []) (sym letters)
          (λ b x letter past. ap (λ l. get_or l (b * n + x) []) units_are
          ∙ zero_past n (length born) news (with_births_from n (length es) rows bs) (with_births T bs).rows ((step_sound grow bounds).one_row_list_each ∙ sym count_after) units_agree units_below b x letter past));
      one_bound_each = ap length news_are ∙ are.count ∙ step.kept.sound.valid.presentation.one_weight_each ∙ sym letters;
      bounds = subst (λ (ks : List ℕ). All (λ bound. bound ≤ length u.entries.items) ks) (sym news_are) (subst (λ l. All (λ bound. bound ≤ length l) news) (sym entries_are) are.within);
      live_count = live ∙ live_grown T bs t.live step.live step.kept.sound.one_forward_each step.kept.live_count ∙ ap (λ U. length (live_words U)) (sym same);
      own_forwards =
          keeps_live u.entries.items u.live u.forwards (subst (All (λ (e : Entry). e.death ≡ 0)) (sym entries_are) deaths) none
          (omega (arith, live, all_counted, ap length entries_are, count_born (t.level + 1) bs es)) (omega (arith, room, ap length entries_are, count_born (t.level + 1) bs es));
      own_reaches = subst (λ d. AreReaches d.presentation u.reaches) (sym presentation) (subst (λ r. AreReaches t.presentation.presentation r) (sym reaches) step.kept.own_reaches);
    }
      where
        letters : letter_count u.presentation.presentation ≡ n
        letters = ap (λ (d : Draft). letter_count d.presentation) presentation

        count : length u.rows.items ≡ length rows
        count = ap length units_are ∙ count_with_births n (length es) rows bs

        -- no row of a new id is due
        old_id : (b x : ℕ) → x < n → b < get_or news x 0 → b < length es
        old_id b x letter lt = elim (cases_lt b (length es)) [
          | inl old ↦ old
          | inr new ↦
              let within = are.within x 0 (omega (arith, letter, are.count, step.kept.sound.valid.presentation.one_weight_each)) in
              let id : b < length born = omega (arith, lt, within) in
              let due = ((step_sound grow bounds).due b x).0 ((units_below b x id letter).1 lt) in
              let k : ℕ = b - length es in
              let inside : k < length bs = omega (arith, id, new, count_born (t.level + 1) bs es) in
              let d : Birth = record { parent = 0; letter = 0 } in
              let place : b ≡ length T.words + k = omega (arith, new, words_counted) in
              let word : word_at (with_births T bs) b ≡ born_word T (get_or bs k d) = ap (λ m. word_at (with_births T bs) m) place ∙ word_new T bs k (generator 0) d inside in
              let reach_is : reach (presented T) (word_at (with_births T bs) b) ≡ t.level + 1 = ap (reach (presented T)) word ∙ (step.births.only k d inside).reaches in
              absurd (omega (arith, due.2, reach_is, bounds.positive x))
        ]

-- the step from what the calls say
pub step_is : (t : Inside) (weights : List ℕ) (entries : List Entry) (bs : List Birth) → IsKept t → All (λ f. f ≡ None) (table_of t).forwards → weights ≡ t.presentation.presentation.weights → entries ≡ t.entries.items
    → AreBirths weights entries (t.level + 1) 17 bs → IsStep t bs
step_is t weights entries bs kept live weights_are entries_are births = record {
  kept = kept;
  live = live;
  births = next_births t kept (t.level + 1) bs refl (subst (λ w. AreBirths w t.entries.items (t.level + 1) 17 bs) weights_are (subst (λ l. AreBirths weights l (t.level + 1) 17 bs) entries_are births));
}
