-- Lists of a table with further births.
use Rattle.std.proofs.Common.{◌≡◌, ◌≢◌, ℕ, zero, suc, ◌+◌, ◌*◌, ◌-◌, ◌<◌, ◌≤◌, ◌⊎◌, inl, inr, Some, None, List, [], ◌∷◌, ◌++◌, length, map, take, get_or, refl, sym, ap, ap₂, subst, ◌∙◌, arith}
use Rattle.std.specs.Prelude.{Option, All, AllPairs, Contains, slice_get}
use Rattle.std.proofs.Math.ListN.{set}
use Rattle.std.proofs.lemmas.Bool.{cases_eq, cases_lt}
use Rattle.std.proofs.lemmas.List.{length-append, length-take, take_more, map_push, append_assoc, map-append, length-map, length-set, length_push, get_or_append_left, get_or-append_right, get_or-set_same, get_or-set_other, get_or_past}
use Rattle.std.proofs.lemmas.List.Elements.{All-head, All-tail, All-set, All-push}
use Rattle.ve_theory.specs.Combinations.{unit}
use Rattle.ve_theory.specs.Words.{Word, generator, times}
use Rattle.ve_theory.specs.Answers.{Row}
use Rattle.ve_lemmas.proofs.Lists.{Contains-here, Contains-later}
use Rattle.ve_table.specs.declared.origin.Origin.{Origin}
use Rattle.ve_table.specs.declared.origin.Origin.TheVariants.{Root, Child}
use Rattle.ve_table.specs.declared.entry.Entry.{Entry}
use Rattle.ve_table.specs.declared.birth.Birth.{Birth}
use Rattle.ve_table.specs.Books.{IsOriginOf}
use Rattle.ve_table.specs.Rows.{with_births_from}
use Rattle.ve_table.specs.Growth.{entry_of_birth}
use Rattle.ve_table.specs.Deaths.{forward_of, forwards_of}
use Rattle.ve_table.proofs.Listed.{row_in, Agree, set_agrees, push_agrees}
use Rattle.ve_table.proofs.Opening.{no_row}
use Rattle.ve_table.proofs.Merging.{first_before, rest_rises}

-- the rows of a table of n ids after further births
abbrev pub rows_with : {X : Type 0} → List X → ℕ → List (List (Option Row)) → List Birth → List (List (Option Row))
rows_with names n rows [] = rows
rows_with names n rows (b ∷ bs) = rows_with names (n + 1) (set rows b.parent (set (get_or rows b.parent []) b.letter (Some (unit n))) ++ map (λ _. None) names ∷ []) bs

-- each row has places for all letters, and the births are of its ids and letters
pub record HasWideRows {X : Type 0} (names : List X) (n : ℕ) (rows : List (List (Option Row))) (bs : List Birth) : Type 0 where
  pub count : length rows ≡ n
  pub wide : All (λ (row : List (Option Row)). length row ≡ length names) rows
  pub births : All (λ (b : Birth). (b.parent < n) × (b.letter < length names)) bs

module _ {X : Type 0} (names : List X) where
  abbrev pub after_birth : ℕ → List (List (Option Row)) → Birth → List (List (Option Row))
  after_birth n rows b = set rows b.parent (set (get_or rows b.parent []) b.letter (Some (unit n))) ++ map (λ _. None) names ∷ []

  wide_after : (n : ℕ) (rows : List (List (Option Row))) (b : Birth) (bs : List Birth) → HasWideRows names n rows (b ∷ bs) → HasWideRows names (n + 1) (after_birth n rows b) bs
  wide_after n rows b bs has =
      let birth = All-head (λ (b : Birth). (b.parent < n) × (b.letter < length names)) b bs has.births in
      let row : length (get_or rows b.parent []) ≡ length names = has.wide b.parent [] (omega (arith, birth.0, has.count)) in
      record {
        count = length_push (set rows b.parent (set (get_or rows b.parent []) b.letter (Some (unit n)))) (map (λ _. None) names) ∙ ap (λ m. m + 1) (length-set rows b.parent (set (get_or rows b.parent []) b.letter (Some (unit n))) ∙ has.count);
        wide = All-push (λ (row : List (Option Row)). length row ≡ length names) (set rows b.parent (set (get_or rows b.parent []) b.letter (Some (unit n)))) (map (λ _. None) names)
            (All-set (λ (row : List (Option Row)). length row ≡ length names) rows b.parent (set (get_or rows b.parent []) b.letter (Some (unit n))) (length-set (get_or rows b.parent []) b.letter (Some (unit n)) ∙ row) has.wide)
            (length-map names empty);
        births = λ k d lt. let c = All-tail (λ (b : Birth). (b.parent < n) × (b.letter < length names)) b bs has.births k d lt in (omega (arith, c.0), c.1);
      }
    where
      empty : X → Option Row
      empty x = None

  pub all_wide : (n : ℕ) (rows : List (List (Option Row))) (bs : List Birth) → HasWideRows names n rows bs → All (λ (row : List (Option Row)). length row ≡ length names) (rows_with names n rows bs)
  all_wide n rows [] has = has.wide
  all_wide n rows (b ∷ bs) has = all_wide (n + 1) (after_birth n rows b) bs (wide_after n rows b bs has)

  row_of_birth : (n : ℕ) (rows : List (List (Option Row))) (b : Birth) (bs : List Birth) → HasWideRows names n rows (b ∷ bs) → row_in (after_birth n rows b) b.parent b.letter ≡ Some (unit n)
  row_of_birth n rows b bs has =
      let birth = All-head (λ (b : Birth). (b.parent < n) × (b.letter < length names)) b bs has.births in
      let new : List (Option Row) = set (get_or rows b.parent []) b.letter (Some (unit n)) in
      let within : b.parent < length rows = omega (arith, birth.0, has.count) in
      let row : length (get_or rows b.parent []) ≡ length names = has.wide b.parent [] within in
      ap (λ l. get_or l b.letter None)
      (get_or_append_left (set rows b.parent new) (map (λ _. None) names ∷ []) [] b.parent (omega (arith, within, length-set rows b.parent new)) ∙ get_or-set_same rows b.parent new [] within)
      ∙ get_or-set_same (get_or rows b.parent []) b.letter (Some (unit n)) None (omega (arith, row, birth.1))

  row_beside : (n : ℕ) (rows : List (List (Option Row))) (b : Birth) (q y : ℕ) → (q ≡ b.parent → y ≡ b.letter → ⊥) → row_in (after_birth n rows b) q y ≡ row_in rows q y
  row_beside n rows b q y differ = by (cases_lt q (length rows))
    where
      new : List (Option Row)
      new = set (get_or rows b.parent []) b.letter (Some (unit n))

      here : q < length rows → q ≡ b.parent → row_in (set rows b.parent new) q y ≡ row_in rows q y
      here lt same =
          ap (λ l. get_or l y None) (subst (λ m. get_or (set rows b.parent new) m [] ≡ new) (sym same) (get_or-set_same rows b.parent new [] (omega (arith, lt, same))))
          ∙ get_or-set_other (get_or rows b.parent []) b.letter y (Some (unit n)) None (differ same) ∙ ap (λ m. row_in rows m y) (sym same)

      inside : q < length rows → (q ≡ b.parent) ⊎ (q ≡ b.parent → ⊥) → row_in (set rows b.parent new) q y ≡ row_in rows q y
      inside lt (inl same) = here lt same
      inside lt (inr other) = ap (λ l. get_or l y None) (get_or-set_other rows b.parent q new [] other)

      by : (q < length rows) ⊎ (length rows ≤ q) → row_in (after_birth n rows b) q y ≡ row_in rows q y
      by (inl lt) = ap (λ l. get_or l y None) (get_or_append_left (set rows b.parent new) (map (λ _. None) names ∷ []) [] q (omega (arith, lt, length-set rows b.parent new))) ∙ inside lt (cases_eq q b.parent)
      by (inr past) =
          ap (λ l. get_or l y None) (get_or-append_right (set rows b.parent new) (map (λ _. None) names ∷ []) (length rows) q [] (length-set rows b.parent new) past)
          ∙ no_row {X = ℕ} (0 ∷ []) names (q - length rows) y
          ∙ sym (ap (λ l. get_or l y None) (get_or_past rows q [] past) ∙ get_or_past [] y None (omega arith))

  -- what is no birth's row stays, and a birth's row is the unit of its id
  pub row_stays : (n : ℕ) (rows : List (List (Option Row))) (bs : List Birth) (q y : ℕ) → (Contains bs (record { parent = q; letter = y }) → ⊥) → row_in (rows_with names n rows bs) q y ≡ row_in rows q y
  row_stays n rows [] q y not_born = refl
  row_stays n rows (b ∷ bs) q y not_born =
      row_stays (n + 1) (after_birth n rows b) bs q y (λ found. not_born (Contains-later b (record { parent = q; letter = y }) bs found))
      ∙ row_beside n rows b q y (λ parent letter. not_born (subst (Contains (b ∷ bs)) (ap₂ (λ p x. record { parent = p; letter = x }) (sym parent) (sym letter)) (Contains-here b bs)))

  pub row_is_born : (n : ℕ) (rows : List (List (Option Row))) (bs : List Birth) (k : ℕ) (d : Birth) → HasWideRows names n rows bs → AllPairs ◌≢◌ bs → k < length bs
      → row_in (rows_with names n rows bs) (get_or bs k d).parent (get_or bs k d).letter ≡ Some (unit (n + k))
  row_is_born n rows [] k d has distinct lt = absurd (omega (arith, lt))
  row_is_born n rows (b ∷ bs) zero d has distinct lt =
      row_stays (n + 1) (after_birth n rows b) bs b.parent b.letter (λ found. first_before ◌≢◌ b bs distinct found.0 b found.1 (sym found.2))
      ∙ row_of_birth n rows b bs has ∙ ap (λ m. Some (unit m)) (omega arith)
  row_is_born n rows (b ∷ bs) (suc k) d has distinct lt =
      row_is_born (n + 1) (after_birth n rows b) bs k d (wide_after n rows b bs has) (rest_rises ◌≢◌ b bs distinct) (omega (arith, lt)) ∙ ap (λ m. Some (unit m)) (omega arith)

  pub length_rows : (n : ℕ) (rows : List (List (Option Row))) (bs : List Birth) → length (rows_with names n rows bs) ≡ length rows + length bs
  length_rows n rows [] = omega arith
  length_rows n rows (b ∷ bs) =
      let rest = length_rows (n + 1) (after_birth n rows b) bs in
      omega (arith, rest, length_push (set rows b.parent (set (get_or rows b.parent []) b.letter (Some (unit n)))) (map (λ _. None) names), length-set rows b.parent (set (get_or rows b.parent []) b.letter (Some (unit n))))

-- the list of rows with the units of births

pub count_with_births : (n first : ℕ) (rows : List Row) (bs : List Birth) → length (with_births_from n first rows bs) ≡ length rows
unfolding with_births_from
count_with_births n first rows [] = refl
count_with_births n first rows (b ∷ bs) = count_with_births n (first + 1) (set rows (b.parent * n + b.letter) (unit first)) bs ∙ length-set rows (b.parent * n + b.letter) (unit first)

pub with_births_push : (n first : ℕ) (rows : List Row) (bs : List Birth) (b : Birth)
    → with_births_from n first rows (bs ++ b ∷ []) ≡ set (with_births_from n first rows bs) (b.parent * n + b.letter) (unit (first + length bs))
unfolding with_births_from
with_births_push n first rows [] b = ap (λ m. set rows (b.parent * n + b.letter) (unit m)) (let e : first ≡ first + 0 = omega arith in e)
with_births_push n first rows (c ∷ bs) b = with_births_push n (first + 1) (set rows (c.parent * n + c.letter) (unit first)) bs b ∙ ap (λ m. set (with_births_from n (first + 1) (set rows (c.parent * n + c.letter) (unit first)) bs) (b.parent * n + b.letter) (unit m)) (omega arith)

pub no_births : (n first : ℕ) (rows : List Row) → rows ≡ with_births_from n first rows []
unfolding with_births_from
no_births n first rows = refl

pub one_more_unit : (n first i : ℕ) (rows : List Row) (bs : List Birth) (d : Birth) → i < length bs
    → set (with_births_from n first rows (take i bs)) ((get_or bs i d).parent * n + (get_or bs i d).letter) (unit (first + i)) ≡ with_births_from n first rows (take (i + 1) bs)
one_more_unit n first i rows bs d lt =
    ap (λ m. set (with_births_from n first rows (take i bs)) ((get_or bs i d).parent * n + (get_or bs i d).letter) (unit (first + m))) (let e : i ≡ length (take i bs) = omega (arith, length-take i bs, lt) in e)
    ∙ sym (ap (with_births_from n first rows) (take_more bs i d lt) ∙ with_births_push n first rows (take i bs) (get_or bs i d))

pub units_as : (n letters first ids : ℕ) (now rows units : List Row) (lent bs : List Birth) → letters ≡ n → first ≡ ids → now ≡ rows → lent ≡ bs → units ≡ with_births_from letters first now lent → units ≡ with_births_from n ids rows bs
units_as n letters first ids now rows units lent bs letters_are first_is now_is lent_is is =
    is ∙ ap₂ (λ a b. with_births_from a b now lent) letters_are first_is ∙ ap₂ (λ a b. with_births_from n ids a b) now_is lent_is

pub born_agrees : {X : Type 0} (names : List X) (first : ℕ) (rows : List Row) (lists : List (List (Option Row))) (bs : List Birth) → HasWideRows names first lists bs → Agree (length names) rows lists
    → All (λ (b : Birth). b.parent * length names + b.letter < length rows) bs → Agree (length names) (with_births_from (length names) first rows bs) (rows_with names first lists bs)
unfolding with_births_from
born_agrees names first rows lists [] has agree places = agree
born_agrees names first rows lists (b ∷ bs) has agree places =
    let birth = All-head (λ (b : Birth). (b.parent < first) × (b.letter < length names)) b bs has.births in
    let id : b.parent < length lists = omega (arith, birth.0, has.count) in
    let place : b.parent * length names + b.letter < length rows = All-head (λ (b : Birth). b.parent * length names + b.letter < length rows) b bs places in
    let later = All-tail (λ (b : Birth). b.parent * length names + b.letter < length rows) b bs places in
    let new : List Row = set rows (b.parent * length names + b.letter) (unit first) in
    born_agrees names (first + 1) new (after_birth names first lists b) bs (wide_after names first lists b bs has)
    (push_agrees names (length names) new (set lists b.parent (set (get_or lists b.parent []) b.letter (Some (unit first))))
    (set_agrees (length names) rows lists b.parent b.letter (unit first) agree id birth.1 (has.wide b.parent [] id) place))
    (λ k d lt. omega (arith, later k d lt, length-set rows (b.parent * length names + b.letter) (unit first)))

-- what entries have after births

abbrev pub origin_of : Birth → Origin
origin_of b = Child b.parent b.letter

map_map : {X Y Z : Type 0} (f : X → Y) (g : Y → Z) (xs : List X) → map g (map f xs) ≡ map (λ x. g (f x)) xs
map_map f g [] = refl
map_map f g (x ∷ xs) = ap (λ l. g (f x) ∷ l) (map_map f g xs)

module _ (reach : ℕ) (bs : List Birth) (es : List Entry) where
  abbrev pub after_births : List Entry
  after_births = es ++ map (entry_of_birth reach es) bs

  pub born_forwards : (fs : List Row) → forwards_of fs after_births ≡ forwards_of fs es ++ map (λ _. None) bs
  born_forwards fs =
      map-append (λ (e : Entry). forward_of fs e.death) es (map (entry_of_birth reach es) bs)
      ∙ ap (λ l. forwards_of fs es ++ l) (map_map (entry_of_birth reach es) (λ (e : Entry). forward_of fs e.death) bs)

  pub born_origins : map (λ (e : Entry). e.origin) after_births ≡ map (λ (e : Entry). e.origin) es ++ map origin_of bs
  born_origins = map-append (λ (e : Entry). e.origin) es (map (entry_of_birth reach es) bs) ∙ ap (λ l. map (λ (e : Entry). e.origin) es ++ l) (map_map (entry_of_birth reach es) (λ (e : Entry). e.origin) bs)

  pub count_born : length after_births ≡ length es + length bs
  count_born = length-append es (map (entry_of_birth reach es) bs) ∙ ap (λ n. length es + n) (length-map bs (entry_of_birth reach es))

-- a birth after another
pub one_more_born : (reach i : ℕ) (es now : List Entry) (bs : List Birth) (d : Birth) → i < length bs → now ≡ es ++ map (entry_of_birth reach es) (take i bs)
    → (e : Entry) → e ≡ entry_of_birth reach es (get_or bs i d) → now ++ e ∷ [] ≡ es ++ map (entry_of_birth reach es) (take (i + 1) bs)
one_more_born reach i es now bs d lt so_far e is =
    ap₂ (λ l e. l ++ e ∷ []) so_far is ∙ append_assoc es (map (entry_of_birth reach es) (take i bs)) (entry_of_birth reach es (get_or bs i d) ∷ [])
    ∙ ap (λ l. es ++ l) (sym (ap (map (entry_of_birth reach es)) (take_more bs i d lt) ∙ map_push (entry_of_birth reach es) (take i bs) (get_or bs i d)))

-- the words

pub slice_join : {X : Type 0} (xs ys : List X) (c : ℕ) (x : X) → slice_get (xs ++ ys) c ≡ Some x → (slice_get xs c ≡ Some x) ⊎ ((k : ℕ) × (c ≡ length xs + k) × (slice_get ys k ≡ Some x))
slice_join [] ys c x found = inr (c, omega arith, found)
slice_join (z ∷ xs) ys zero x found = inl found
slice_join (z ∷ xs) ys (suc c) x found = elim (slice_join xs ys c x found) [ inl there ↦ inl there | inr last ↦ inr (last.0, (let id : suc c ≡ suc (length xs) + last.0 = omega (arith, last.1) in id), last.2) ]

pub origin_longer : (words more : List Word) (c : ℕ) (o : Origin) (w : Word) → c ≤ length words → IsOriginOf words c o w → IsOriginOf (words ++ more) c o w
unfolding IsOriginOf
origin_longer words more c (Root i) w le is = is
origin_longer words more c (Child p x) w le is = (is.0, is.1 ∙ ap (λ v. times v x) (sym (get_or_append_left words more (generator 0) p (omega (arith, is.0, le)))))

pub birth_origin : (words more : List Word) (c : ℕ) (b : Birth) (w : Word) → b.parent < length words → b.parent < c → w ≡ times (get_or words b.parent (generator 0)) b.letter → IsOriginOf (words ++ more) c (origin_of b) w
unfolding IsOriginOf
birth_origin words more c b w within earlier is = (earlier, is ∙ ap (λ v. times v b.letter) (sym (get_or_append_left words more (generator 0) b.parent within)))
