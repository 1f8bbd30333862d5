-- The entries of a row, written from its last term to its first.
use Rattle.std.specs.Prelude.{◌≡◌, ℕ, zero, suc, ◌+◌, ◌-◌, ◌*◌, ◌<◌, ◌≤◌, List, [], ◌∷◌, ◌++◌, length, map, codes, decimal, replicate, nat_eq, refl, Some, slice_get}
use Rattle.std.proofs.Common.{sym, ap, subst, ◌∙◌, append_assoc, append-nil, arith, take, drop, get_or, add-one}
use Rattle.std.proofs.Math.Seq.{take-append_seam, drop-cons}
use Rattle.std.proofs.lemmas.Fmt.{decimal_digit}
use Rattle.std.proofs.lemmas.List.{map-append, replicate-append-replicate, length-append, drop_all}
use Rattle.std.proofs.lemmas.List.Elements.{All-get_or}
use Rattle.std.proofs.lemmas.Grind.{replicate_next}
use Rattle.std.proofs.lemmas.Option.{get_or_from_slice_get}
use Rattle.ve_theory.specs.Combinations.{coefficient, IsReduced, AllBefore}
use Rattle.ve_theory.specs.Answers.{Row, IsRow}
use Rattle.ve_lemmas.proofs.Sums.{AllBefore_from_All}
use Rattle.ve_vec.proofs.Coefficients.{coefficient-below, coefficient-first, coefficient-other}
use Rattle.ve_formats.specs.Lines.{numbers_below, numbers_below-next, each_after_space, each_after_space-append, each_after_space-one}
use Rattle.ve_formats.specs.AnswerText.{row_entries}
use Rattle.ve_out.specs.Parts.{zero_entries, entries_below}

-- ---- zeros

pub zero_entries-none : zero_entries 0 ≡ []
unfolding zero_entries each_after_space
zero_entries-none = refl

pub zero_entries-append : (m n : ℕ) → zero_entries (m + n) ≡ zero_entries m ++ zero_entries n
unfolding zero_entries
zero_entries-append m n =
    ap each_after_space (sym (replicate-append-replicate m n (codes "0"))) ∙ each_after_space-append (replicate m (codes "0")) (replicate n (codes "0"))

zero_entries-one : zero_entries 1 ≡ codes " 0"
unfolding zero_entries
zero_entries-one = each_after_space-one (codes "0")

pub zero_entries-next : (n : ℕ) → zero_entries (n + 1) ≡ zero_entries n ++ codes " 0"
zero_entries-next n = zero_entries-append n 1 ∙ ap (λ t. zero_entries n ++ t) zero_entries-one

pub length-zero_entries : (n : ℕ) → length (zero_entries n) ≡ 2 * n
length-zero_entries zero = ap length zero_entries-none
length-zero_entries (suc n) =
    ap (λ m. length (zero_entries m)) (omega arith) ∙ ap length (zero_entries-next n) ∙ length-append (zero_entries n) (codes " 0") ∙ omega (arith, length-zero_entries n)

-- the first zeros of some
pub zeros_to : (m n : ℕ) (zeros : List ℕ) → zeros ≡ zero_entries n → m ≤ n → take (2 * m) zeros ≡ zero_entries m
zeros_to m n zeros is le =
    let split : n ≡ m + (n - m) = omega arith in
    ap (take (2 * m)) is ∙ ap (λ k. take (2 * m) (zero_entries k)) split ∙ ap (take (2 * m)) (zero_entries-append m (n - m))
    ∙ ap (λ k. take k (zero_entries m ++ zero_entries (n - m))) (sym (length-zero_entries m))
    ∙ take-append_seam (zero_entries m) (zero_entries (n - m))

-- ---- the entries below a place

pub entries_below-none : (row : Row) → entries_below 0 row ≡ []
unfolding entries_below numbers_below each_after_space
entries_below-none row = refl

entries_below-all : (n : ℕ) (row : Row) → entries_below n row ≡ row_entries n row
unfolding entries_below
entries_below-all n row = refl

entries_below-next : (n : ℕ) (row : Row) → entries_below (n + 1) row ≡ entries_below n row ++ 32 ∷ decimal (coefficient nat_eq row n)
unfolding entries_below
entries_below-next n row =
    let entry : ℕ → List ℕ = λ place. decimal (coefficient nat_eq row place) in
    ap (λ ns. each_after_space (map entry ns)) (numbers_below-next n)
    ∙ ap each_after_space (map-append entry (numbers_below n) (n ∷ []))
    ∙ each_after_space-append (map entry (numbers_below n)) (entry n ∷ [])
    ∙ ap (λ t. each_after_space (map entry (numbers_below n)) ++ t) (each_after_space-one (entry n))

-- past the places of a row all entries are 0
entries_past : (k n : ℕ) (row : Row) → AllBefore ◌<◌ k row → entries_below (k + n) row ≡ entries_below k row ++ zero_entries n
entries_past k zero row below = ap (λ m. entries_below m row) (omega arith) ∙ sym (append-nil (entries_below k row)) ∙ ap (λ t. entries_below k row ++ t) (sym zero_entries-none)
entries_past k (suc n) row below =
    let next : k + suc n ≡ (k + n) + 1 = omega arith in
    let more : n + 1 ≡ suc n = omega arith in
    ap (λ m. entries_below m row) next ∙ entries_below-next (k + n) row
    ∙ ap (λ c. entries_below (k + n) row ++ 32 ∷ decimal c) (coefficient-below k (k + n) row (omega arith) below)
    ∙ ap (λ d. entries_below (k + n) row ++ 32 ∷ d) (decimal_digit 0 (omega arith))
    ∙ ap (λ t. t ++ codes " 0") (entries_past k n row below) ∙ append_assoc (entries_below k row) (zero_entries n) (codes " 0")
    ∙ ap (λ t. entries_below k row ++ t) (sym (zero_entries-next n)) ∙ ap (λ m. entries_below k row ++ zero_entries m) more

-- a term at a place changes no entry below it
entries_before : (m : ℕ) (t : ℕ × ℕ) (row : Row) → m ≤ t.0 → entries_below m (t ∷ row) ≡ entries_below m row
entries_before zero t row le = entries_below-none (t ∷ row) ∙ sym (entries_below-none row)
entries_before (suc m) t row le =
    let next : suc m ≡ m + 1 = omega arith in
    ap (λ k. entries_below k (t ∷ row)) next ∙ entries_below-next m (t ∷ row)
    ∙ ap (λ c. entries_below m (t ∷ row) ++ 32 ∷ decimal c) (coefficient-other t row m (omega arith))
    ∙ ap (λ e. e ++ 32 ∷ decimal (coefficient nat_eq row m)) (entries_before m t row (omega arith))
    ∙ sym (entries_below-next m row) ∙ ap (λ k. entries_below k row) (sym next)

-- ---- what is written: the entries below `next` of the terms from a place on, which are all below it

pub record IsWritten (row : Row) (from next : ℕ) (old new : List ℕ) : Type 0 where
  pub below : AllBefore ◌<◌ next (drop from row)
  pub least : (m : ℕ) → AllBefore ◌<◌ m (drop from row) → next ≤ m
  pub entries : new ≡ old ++ entries_below next (drop from row)

pub nothing_written : (row : Row) (from : ℕ) (line : List ℕ) → from ≡ length row → IsWritten row from 0 line line
unfolding AllBefore
nothing_written row from line is =
    let none : drop from row ≡ [] = drop_all from row (omega (arith, is)) in
    record {
      below = subst (λ v. AllBefore ◌<◌ 0 v) (sym none) tt;
      least = λ m below. omega arith;
      entries = sym (append-nil line) ∙ ap (λ e. line ++ e) (sym (entries_below-none (drop from row)));
    }

-- the terms from a place on are reduced
reduced_from : (p k : ℕ) (row : Row) → IsReduced ◌<◌ p row → IsReduced ◌<◌ p (drop k row)
unfolding IsReduced
reduced_from p zero row reduced = reduced
reduced_from p (suc k) [] reduced = tt
reduced_from p (suc k) (t ∷ row) reduced = reduced_from p k row reduced.3

before_head : (p : ℕ) (t : ℕ × ℕ) (row : Row) → IsReduced ◌<◌ p (t ∷ row) → AllBefore ◌<◌ t.0 row
unfolding IsReduced
before_head p t row reduced = reduced.2

AllBefore-later : (j k : ℕ) (row : Row) → j ≤ k → AllBefore ◌<◌ j row → AllBefore ◌<◌ k row
unfolding AllBefore
AllBefore-later j k [] le before = tt
AllBefore-later j k (t ∷ row) le before = (omega (arith, before.0), AllBefore-later j k row le before.1)

AllBefore-first : (k : ℕ) (t : ℕ × ℕ) (row : Row) → t.0 < k → AllBefore ◌<◌ k row → AllBefore ◌<◌ k (t ∷ row)
unfolding AllBefore
AllBefore-first k t row first before = (first, before)

first_before : (k : ℕ) (t : ℕ × ℕ) (row : Row) → AllBefore ◌<◌ k (t ∷ row) → t.0 < k
unfolding AllBefore
first_before k t row before = before.0

AllBefore-from : (n k : ℕ) (row : Row) → AllBefore ◌<◌ n row → AllBefore ◌<◌ n (drop k row)
unfolding AllBefore
AllBefore-from n zero row before = before
AllBefore-from n (suc k) [] before = tt
AllBefore-from n (suc k) (t ∷ row) before = AllBefore-from n k row before.1

-- the term before a place
module _ (p n : ℕ) (row : Row) (is_row : IsRow p n row) (at : ℕ) (t : ℕ × ℕ) (inside : at < length row) (found : slice_get row at ≡ Some t) where
  from_term : drop at row ≡ t ∷ drop (at + 1) row
  from_term =
      drop-cons row at t inside
      ∙ ap (λ u. u ∷ drop (suc at) row) (get_or_from_slice_get row at t t found) ∙ ap (λ k. t ∷ drop k row) (sym (add-one at))

  pub term_below : t.0 < n
  term_below = subst (λ (u : ℕ × ℕ). u.0 < n) (get_or_from_slice_get row at t t found) (All-get_or (λ (u : ℕ × ℕ). u.0 < n) row at t inside is_row.1)

  before_term : AllBefore ◌<◌ t.0 (drop (at + 1) row)
  before_term = before_head p t (drop (at + 1) row) (subst (IsReduced ◌<◌ p) from_term (reduced_from p at row is_row.0))

  pub next_before_term : {next : ℕ} {old new : List ℕ} → IsWritten row (at + 1) next old new → next ≤ t.0
  next_before_term written = written.least t.0 before_term

  pub term_written : (next : ℕ) (old new zeros : List ℕ) → IsWritten row (at + 1) next old new → zeros ≡ zero_entries (t.0 - next)
      → IsWritten row at (t.0 + 1) old (((new ++ zeros) ++ codes " ") ++ decimal t.1)
  term_written next old new zeros written is =
      let rest : Row = drop (at + 1) row in
      let le : next ≤ t.0 = next_before_term written in
      let gap : next + (t.0 - next) ≡ t.0 = omega arith in
      let own : coefficient nat_eq (t ∷ rest) t.0 ≡ t.1 = coefficient-first t rest ∙ omega (arith, coefficient-below t.0 t.0 rest (omega arith) before_term) in
      let entries : entries_below (t.0 + 1) (t ∷ rest) ≡ entries_below next rest ++ zero_entries (t.0 - next) ++ 32 ∷ decimal t.1 =
      entries_below-next t.0 (t ∷ rest)
      ∙ ap (λ c. entries_below t.0 (t ∷ rest) ++ 32 ∷ decimal c) own
      ∙ ap (λ e. e ++ 32 ∷ decimal t.1) (entries_before t.0 t rest (omega arith) ∙ ap (λ m. entries_below m rest) (sym gap) ∙ entries_past next (t.0 - next) rest written.below) in
      record {
        below = subst (AllBefore ◌<◌ (t.0 + 1)) (sym from_term) (AllBefore-first (t.0 + 1) t rest (omega arith) (AllBefore-later t.0 (t.0 + 1) rest (omega arith) before_term));
        least = λ m before. omega (arith, first_before m t rest (subst (AllBefore ◌<◌ m) from_term before));
        entries = grouped old new zeros (entries_below next rest) (decimal t.1) written.entries
            ∙ ap (λ z. old ++ (entries_below next rest ++ z ++ 32 ∷ decimal t.1)) is
            ∙ ap (λ e. old ++ e) (sym entries ∙ ap (entries_below (t.0 + 1)) (sym from_term));
      }
    where
      grouped : (old new zeros front digits : List ℕ) → new ≡ old ++ front → ((new ++ zeros) ++ codes " ") ++ digits ≡ old ++ (front ++ zeros ++ 32 ∷ digits)
      grouped old new zeros front digits is = rw is (simp append_assoc refl)

-- the whole row
pub row_written : (p n : ℕ) (row : Row) (from next : ℕ) (old new zeros : List ℕ) → IsRow p n row → from ≡ 0 → IsWritten row from next old new → zeros ≡ zero_entries (n - next)
    → new ++ zeros ≡ old ++ row_entries n row
row_written p n row from next old new zeros is_row start written is =
    let below : AllBefore ◌<◌ next row = subst (λ k. AllBefore ◌<◌ next (drop k row)) start written.below in
    let most : next ≤ n = written.least n (AllBefore-from n from row (AllBefore_from_All ◌<◌ n row is_row.1)) in
    let gap : next + (n - next) ≡ n = omega arith in
    ap (λ l. l ++ zeros) (written.entries ∙ ap (λ k. old ++ entries_below next (drop k row)) start) ∙ append_assoc old (entries_below next row) zeros
    ∙ ap (λ z. old ++ (entries_below next row ++ z)) is ∙ ap (λ e. old ++ e) (sym (entries_past next (n - next) row below) ∙ ap (λ m. entries_below m row) gap ∙ entries_below-all n row)

pub written_below : (p n : ℕ) (row : Row) (from next : ℕ) (old new : List ℕ) → IsRow p n row → IsWritten row from next old new → next ≤ n
written_below p n row from next old new is_row written = written.least n (AllBefore-from n from row (AllBefore_from_All ◌<◌ n row is_row.1))
