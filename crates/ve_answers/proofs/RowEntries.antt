-- The entries of a row, and the row of entries.
use Rattle.std.proofs.Common.{◌≡◌, ℕ, zero, suc, ◌+◌, ◌*◌, ◌%◌, ◌^◌, ◌<◌, ◌≤◌, Bool, true, false, cond, inl, inr, get_or, List, [], ◌∷◌, ◌++◌, length, All, arith, refl, sym, ap, subst, ◌∙◌, append_assoc, append-nil}
use Rattle.std.specs.Prelude.{nat_eq, nat_lt, map, decimal, slice_index, IsTrue}
use Rattle.std.proofs.Math.Nat.{mod-eq_of_lt}
use Rattle.std.proofs.lemmas.Bool.{cases_Bool, cases_lt, cond-false, cond-true, eq-eqb, eqb-true, ne_eqb, ltb-true, lt-ltb}
use Rattle.std.proofs.lemmas.List.{append_cancel_left, get_or_at, get_or_past, length-append, same_lists, get_or-map, get_or_default, get_or_append_left, get_or_push, length-map, length_push}
use Rattle.std.proofs.lemmas.List.Elements.{All-weaker, All-nil, All-map, All-get_or}
use Rattle.ve_theory.specs.Combinations.{coefficient, unit, scaled, AllBefore, IsReduced, IsReducedOf}
use Rattle.ve_theory.specs.Answers.{Row, IsRow}
use Rattle.ve_theory.proofs.Reduced.{All_from_AllBefore}
use Rattle.ve_theory.proofs.Remainders.{All-unit}
use Rattle.ve_theory.proofs.Sums.{coefficient-absent, coefficient-append}
use Rattle.ve_formats.specs.Lines.{each_after_space, numbers_below}
use Rattle.ve_formats.specs.AnswerText.{row_entries}
use Rattle.ve_formats.specs.Pieces.{Lacks}
use Rattle.ve_formats.proofs.NumbersBelow.{length-numbers_below, number_at}
use Rattle.ve_answers.specs.declared.head.Head.{Head}
use Rattle.ve_answers.specs.Rows.{IsEntryLine, IsRowLine}

-- ---- coefficients

no_later : (k : ℕ) (v : Row) → AllBefore ◌<◌ k v → coefficient nat_eq v k ≡ 0
no_later k v before =
    coefficient-absent nat_eq v k
    (All-weaker (λ (t : ℕ × ℕ). t.0 < k) (λ (t : ℕ × ℕ). nat_eq t.0 k ≡ false) (λ t less. ne_eqb t.0 k (λ is. omega (arith, less, is))) v (All_from_AllBefore ◌<◌ k v before))

pub coefficient_residue : (p : ℕ) (v : Row) (k : ℕ) → 0 < p → IsReduced ◌<◌ p v → coefficient nat_eq v k < p
unfolding coefficient IsReduced
coefficient_residue p [] k some reduced = some
coefficient_residue p (t ∷ v) k some reduced =
    elim (cases_Bool (nat_eq t.0 k)) [
      | inl here ↦
          let none : coefficient nat_eq v k ≡ 0 = no_later k v (subst (λ j. AllBefore ◌<◌ j v) (eqb-true t.0 k here) reduced.2) in
          omega (arith, cond-true (nat_eq t.0 k) t.1 0 here, none, reduced.1)
      | inr other ↦ omega (arith, cond-false (nat_eq t.0 k) t.1 0 other, coefficient_residue p v k some reduced.3)
    ]

coefficient-term : (k c at : ℕ) → coefficient nat_eq (scaled c (unit k)) at ≡ cond (nat_eq k at) (c * 1) 0 + 0
unfolding coefficient scaled
coefficient-term k c at = refl

-- ---- the row of entries, from the last to the first

-- the row has the entries from this place on, and no others
pub record IsRowFrom (p : ℕ) (entries : List ℕ) (from : ℕ) (v : Row) : Type 0 where
  pub reduced : IsReduced ◌<◌ p v
  pub places : All (λ t. t.0 < length entries) v
  pub here : (k : ℕ) → from ≤ k → coefficient nat_eq v k ≡ slice_index entries k
  pub none : (k : ℕ) → k < from → coefficient nat_eq v k ≡ 0

-- one entry more, before the others
module _ (p : ℕ) (entries : List ℕ) (at : ℕ) (old new : Row) (some : 0 < p) (before : IsRowFrom p entries (at + 1) old) (is : IsReducedOf ◌<◌ nat_eq p new (old ++ scaled (slice_index entries at) (unit at))) (small : slice_index entries at < p) where
  sum_at : (k : ℕ) → coefficient nat_eq (old ++ scaled (slice_index entries at) (unit at)) k ≡ coefficient nat_eq old k + (cond (nat_eq at k) (slice_index entries at * 1) 0 + 0)
  sum_at k = coefficient-append nat_eq old (scaled (slice_index entries at) (unit at)) k ∙ ap (λ c. coefficient nat_eq old k + c) (coefficient-term at (slice_index entries at) k)

  -- a residue is its own
  own : (k n : ℕ) → coefficient nat_eq (old ++ scaled (slice_index entries at) (unit at)) k ≡ n → n < p → coefficient nat_eq new k ≡ n
  own k n same less =
      let low : coefficient nat_eq new k % p ≡ coefficient nat_eq new k = mod-eq_of_lt (coefficient_residue p new k some is.reduced) in
      let high : n % p ≡ n = mod-eq_of_lt less in
      sym low ∙ is.alike k ∙ ap (λ m. m % p) same ∙ high

  at_place : (k : ℕ) → at ≡ k → coefficient nat_eq new k ≡ slice_index entries k
  at_place k same =
      let none : coefficient nat_eq old k ≡ 0 = before.none k (omega (arith, same)) in
      let one : cond (nat_eq at k) (slice_index entries at * 1) 0 ≡ slice_index entries at * 1 = cond-true (nat_eq at k) (slice_index entries at * 1) 0 (subst (λ j. nat_eq at j ≡ true) same (same_eq at)) in
      own k (slice_index entries at) (omega (arith, sum_at k, none, one)) small ∙ ap (slice_index entries) same
    where
      same_eq : (n : ℕ) → nat_eq n n ≡ true
      same_eq n = eq-eqb n n refl

  elsewhere : (k : ℕ) → (at ≡ k → ⊥) → coefficient nat_eq new k ≡ coefficient nat_eq old k
  elsewhere k other =
      let zero_is : cond (nat_eq at k) (slice_index entries at * 1) 0 ≡ 0 = cond-false (nat_eq at k) (slice_index entries at * 1) 0 (ne_eqb at k other) in
      own k (coefficient nat_eq old k) (omega (arith, sum_at k, zero_is)) (coefficient_residue p old k some before.reduced)

  pub entry_more : All (λ t. t.0 < length entries) new → IsRowFrom p entries at new
  entry_more places = record {
    reduced = is.reduced;
    places = places;
    here = λ k above. elim (cases_lt at k) [
      | inl over ↦ elsewhere k (λ same. omega (arith, same, over)) ∙ before.here k (omega (arith, over))
      | inr under ↦ at_place k (omega (arith, above, under))
    ];
    none = λ k below. elsewhere k (λ same. omega (arith, same, below)) ∙ before.none k (omega (arith, below));
  }

-- places below a bound, as a test and as a fact
pub as_test : (n : ℕ) (v : Row) → All (λ t. t.0 < n) v → All (λ t. IsTrue (nat_lt t.0 n)) v
as_test n v all = All-weaker (λ (t : ℕ × ℕ). t.0 < n) (λ (t : ℕ × ℕ). IsTrue (nat_lt t.0 n)) (λ t less. lt-ltb t.0 n less) v all

pub as_fact : (n : ℕ) (v : Row) → All (λ t. IsTrue (nat_lt t.0 n)) v → All (λ t. t.0 < n) v
as_fact n v all = All-weaker (λ (t : ℕ × ℕ). IsTrue (nat_lt t.0 n)) (λ (t : ℕ × ℕ). t.0 < n) (λ t test. ltb-true t.0 n test) v all

-- ---- entries that are left

-- the row has the entries behind those that are left
pub record IsRowBehind (p : ℕ) (entries left : List ℕ) (v : Row) : Type 0 where
  pub behind : List ℕ
  pub whole : entries ≡ left ++ behind
  pub row : IsRowFrom p entries (length left) v

pub no_entries : (p : ℕ) (entries : List ℕ) (v : Row) → v ≡ [] → IsReduced ◌<◌ p v → IsRowBehind p entries entries v
unfolding coefficient
no_entries p entries v is reduced = record {
  behind = [];
  whole = sym (append-nil entries);
  row = record {
    reduced = reduced;
    places = subst (All (λ t. t.0 < length entries)) (sym is) (All-nil (λ (t : ℕ × ℕ). t.0 < length entries));
    here = λ k above. ap (λ u. coefficient nat_eq u k) is ∙ sym (get_or_past entries k 0 above);
    none = λ k below. ap (λ u. coefficient nat_eq u k) is;
  };
}

module _ (p : ℕ) (entries left before : List ℕ) (entry : ℕ) (old : Row) (is : IsRowBehind p entries left old) (last : left ≡ before ++ entry ∷ []) where
  whole_again : entries ≡ before ++ entry ∷ is.behind
  whole_again = is.whole ∙ ap (λ l. l ++ is.behind) last ∙ append_assoc before (entry ∷ []) is.behind

  own_entry : slice_index entries (length before) ≡ entry
  own_entry = ap (λ es. slice_index es (length before)) whole_again ∙ get_or_at before entry is.behind 0 (length before) refl

  pub place_within : length before < length entries
  place_within = omega (arith, ap length whole_again, length-append before (entry ∷ is.behind))

  pub entry_small : All (λ n. n < p) entries → entry < p
  entry_small all = subst (λ n. n < p) own_entry (All-get_or (λ n. n < p) entries (length before) 0 place_within all)

  pub entry_taken : (new : Row) → 0 < p → All (λ n. n < p) entries → IsReducedOf ◌<◌ nat_eq p new (old ++ scaled entry (unit (length before)))
      → ((among : ℕ → Bool) → All (λ t. IsTrue (among t.0)) old → All (λ t. IsTrue (among t.0)) (unit (length before)) → All (λ t. IsTrue (among t.0)) new)
      → IsRowBehind p entries before new
  entry_taken new some all sum ids = record {
    behind = entry ∷ is.behind;
    whole = whole_again;
    row = entry_more p entries (length before) old new some
        (subst (λ n. IsRowFrom p entries n old) (ap length last ∙ length_push before entry) is.row)
        (subst (λ c. IsReducedOf ◌<◌ nat_eq p new (old ++ scaled c (unit (length before)))) (sym own_entry) sum)
        (subst (λ c. c < p) (sym own_entry) (entry_small all))
        (as_fact (length entries) new
        (ids (λ k. nat_lt k (length entries)) (as_test (length entries) old is.row.places)
        (All-unit (λ k. IsTrue (nat_lt k (length entries))) (length before) (lt-ltb (length before) (length entries) place_within))));
  }

pub row_done : (p : ℕ) (entries left : List ℕ) (v : Row) → IsRowBehind p entries left v → length left ≡ 0 → IsRow p (length entries) v × ((place : ℕ) → coefficient nat_eq v place ≡ slice_index entries place)
row_done p entries left v is none = ((is.row.reduced, is.row.places), λ place. is.row.here place (omega (arith, none)))

-- ---- the lines of entries and of rows

entries_in : ℕ → Row → List ℕ
entries_in n v = map (λ place. coefficient nat_eq v place) (numbers_below n)

entries_are : (n : ℕ) (v : Row) → row_entries n v ≡ each_after_space (map decimal (entries_in n v))
unfolding entries_in
entries_are n v = ap each_after_space (sym (composed (numbers_below n)))
  where
    composed : (places : List ℕ) → map decimal (map (λ place. coefficient nat_eq v place) places) ≡ map (λ place. decimal (coefficient nat_eq v place)) places
    composed [] = refl
    composed (place ∷ places) = ap (λ ds. decimal (coefficient nat_eq v place) ∷ ds) (composed places)

length-entries_in : (n : ℕ) (v : Row) → length (entries_in n v) ≡ n
unfolding entries_in
length-entries_in n v = length-map (numbers_below n) (λ place. coefficient nat_eq v place) ∙ length-numbers_below n

same_entries : (n : ℕ) (v : Row) (entries : List ℕ) → length entries ≡ n → ((k : ℕ) → coefficient nat_eq v k ≡ slice_index entries k) → entries_in n v ≡ entries
unfolding entries_in
same_entries n v entries count same =
    same_lists (entries_in n v) entries (length-entries_in n v ∙ sym count)
    (λ k d inside.
    let less : k < n = omega (arith, inside, length-entries_in n v) in
    get_or-map (λ place. coefficient nat_eq v place) (numbers_below n) k 0 d (omega (arith, less, length-numbers_below n))
    ∙ ap (λ place. coefficient nat_eq v place) (number_at n k less) ∙ same k ∙ get_or_default entries k 0 d (omega (arith, less, count)))

-- a row has a line of entries, and entries have a line of their row
pub row_has_entries : (head : Head) (word line : List ℕ) (v : Row) → 0 < head.field → IsRowLine head word line v → (entries : List ℕ) × IsEntryLine head word line entries
unfolding entries_in
row_has_entries head word line v some is = (
  entries_in head.dimension v,
  record {
    count = length-entries_in head.dimension v;
    residues = All-map (λ entry. entry < head.field) (λ place. coefficient nat_eq v place) (numbers_below head.dimension)
        (λ k d inside. coefficient_residue head.field v (get_or (numbers_below head.dimension) k d) some is.row.0);
    text = is.text ∙ ap (λ t. word ++ t) (entries_are head.dimension v);
  },
)

pub entries_have_row : (head : Head) (word line entries : List ℕ) (v : Row) → IsEntryLine head word line entries → IsRow head.field (length entries) v → ((k : ℕ) → coefficient nat_eq v k ≡ slice_index entries k) → IsRowLine head word line v
entries_have_row head word line entries v is row same = record {
  row = subst (λ n. IsRow head.field n v) is.count row;
  text = is.text ∙ ap (λ t. word ++ t) (ap (λ es. each_after_space (map decimal es)) (sym (same_entries head.dimension v entries is.count same)) ∙ sym (entries_are head.dimension v));
}

-- ---- entries among pieces

module _ (head : Head) (word line rest : List ℕ) (line_is : line ≡ word ++ rest) where
  pub no_pieces : ((pieces : List (List ℕ)) → rest ≡ each_after_space pieces → ⊥) → (entries : List ℕ) → IsEntryLine head word line entries → ⊥
  no_pieces unfit entries is = unfit (map decimal entries) (append_cancel_left word rest (each_after_space (map decimal entries)) (sym line_is ∙ is.text))

  module _ (spaces : (xs ys : List (List ℕ)) → All (Lacks 32) xs → All (Lacks 32) ys → each_after_space xs ≡ each_after_space ys → xs ≡ ys)
      (numbers : (n : ℕ) → n < 2 ^ 64 → Lacks 32 (decimal n) × Lacks 42 (decimal n)) (small : head.field < 256)
      (pieces : List (List ℕ)) (rest_is : rest ≡ each_after_space pieces) (lack : All (Lacks 32) pieces) where
    pub same_pieces : (entries : List ℕ) → IsEntryLine head word line entries → pieces ≡ map decimal entries
    same_pieces entries is =
        spaces pieces (map decimal entries) lack
        (All-map (Lacks 32) decimal entries (All-weaker (λ n. n < head.field) (λ n. Lacks 32 (decimal n)) (λ n less. (numbers n (omega (arith, less, small))).0) entries is.residues))
        (sym rest_is ∙ append_cancel_left word rest (each_after_space (map decimal entries)) (sym line_is ∙ is.text))

    pub other_count : (length pieces ≡ head.dimension → ⊥) → (entries : List ℕ) → IsEntryLine head word line entries → ⊥
    other_count other entries is = other (ap length (same_pieces entries is) ∙ length-map entries decimal ∙ is.count)

    pub not_numbers : ((entries : List ℕ) → All (λ n. n < head.field) entries → pieces ≡ map decimal entries → ⊥) → (entries : List ℕ) → IsEntryLine head word line entries → ⊥
    not_numbers unfit entries is = unfit entries is.residues (same_pieces entries is)

    pub are_entries : length pieces ≡ head.dimension → (entries : List ℕ) → All (λ n. n < head.field) entries → pieces ≡ map decimal entries → IsEntryLine head word line entries
    are_entries count entries below same = record {
      count = sym (length-map entries decimal) ∙ ap length (sym same) ∙ count;
      residues = below;
      text = line_is ∙ ap (λ t. word ++ t) (rest_is ∙ ap each_after_space same);
    }
