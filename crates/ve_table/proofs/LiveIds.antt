-- Live ids and their new numbers.
use Rattle.std.proofs.Common.{◌≡◌, ℕ, zero, suc, ◌+◌, ◌<◌, ◌≤◌, ◌⊎◌, inl, inr, cond, Some, None, List, [], ◌∷◌, length, map, take, get_or, refl, sym, ap, ap₂, ◌∙◌, arith}
use Rattle.std.specs.Prelude.{Option, count_by, filter, nat_eq, slice_get}
use Rattle.std.specs.Option.{is_none}
use Rattle.std.proofs.lemmas.Bool.{cases_lt, cond-false}
use Rattle.std.proofs.lemmas.List.{length-map}
use Rattle.std.proofs.lemmas.List.Sums.{sum_by-cons}
use Rattle.std.proofs.lemmas.Option.{none-some}
use Rattle.ve_theory.specs.Answers.{Row}
use Rattle.ve_table.specs.Tables.{of_live}
use Rattle.ve_table.specs.declared.entry.Entry.{Entry}
use Rattle.ve_table.specs.Deaths.{is_live_entry, forward_of, forwards_of}
use Rattle.ve_table.proofs.Deaths.{not_zero, is_none-forward}
use Rattle.ve_table.proofs.Entries.{same_some}

-- how many are live
abbrev pub alive : List (Option Row) → ℕ
alive fs = count_by is_none fs

pub alive-none : (fs : List (Option Row)) → alive (None ∷ fs) ≡ suc (alive fs)
alive-none fs = sum_by-cons (λ (f : Option Row). cond (is_none f) 1 0) None fs ∙ omega arith

pub alive-some : (v : Row) (fs : List (Option Row)) → alive (Some v ∷ fs) ≡ alive fs
alive-some v fs = sum_by-cons (λ (f : Option Row). cond (is_none f) 1 0) (Some v) fs ∙ omega arith

pub length-of_live : {X : Type 0} (fs : List (Option Row)) (xs : List X) → length fs ≤ length xs → length (of_live fs xs) ≡ alive fs
unfolding of_live
length-of_live [] xs le = refl
length-of_live (f ∷ fs) [] le = absurd (omega (arith, le))
length-of_live (None ∷ fs) (x ∷ xs) le = ap suc (length-of_live fs xs (omega (arith, le))) ∙ sym (alive-none fs)
length-of_live (Some v ∷ fs) (x ∷ xs) le = length-of_live fs xs (omega (arith, le)) ∙ sym (alive-some v fs)

-- a live id's number finds what the id has
pub of_live-at : {X : Type 0} (fs : List (Option Row)) (xs : List X) (b : ℕ) (d : X) → length fs ≡ length xs → slice_get fs b ≡ Some None → get_or (of_live fs xs) (alive (take b fs)) d ≡ get_or xs b d
unfolding of_live
of_live-at [] xs b d same live = absurd (none-some None live)
of_live-at (f ∷ fs) [] b d same live = absurd (omega (arith, same))
of_live-at (f ∷ fs) (x ∷ xs) zero d same live = rw (same_some f None live) refl
of_live-at (None ∷ fs) (x ∷ xs) (suc b) d same live = ap (λ n. get_or (x ∷ of_live fs xs) n d) (alive-none (take b fs)) ∙ of_live-at fs xs b d (omega (arith, same)) live
of_live-at (Some v ∷ fs) (x ∷ xs) (suc b) d same live = ap (λ n. get_or (of_live fs xs) n d) (alive-some v (take b fs)) ∙ of_live-at fs xs b d (omega (arith, same)) live

-- each new number is that of a live id
pub live_id : (fs : List (Option Row)) (n : ℕ) → n < alive fs → (b : ℕ) × (slice_get fs b ≡ Some None) × (alive (take b fs) ≡ n)
live_id [] n lt = absurd (omega (arith, lt))
live_id (None ∷ fs) zero lt = (0, refl, refl)
live_id (None ∷ fs) (suc n) lt = let found = live_id fs n (omega (arith, lt, alive-none fs)) in (suc found.0, found.1, alive-none (take found.0 fs) ∙ ap suc found.2)
live_id (Some v ∷ fs) n lt = let found = live_id fs n (omega (arith, lt, alive-some v fs)) in (suc found.0, found.1, alive-some v (take found.0 fs) ∙ found.2)

-- numbers of live ids are numbers, and keep the order
pub number_within : (fs : List (Option Row)) (b : ℕ) → slice_get fs b ≡ Some None → alive (take b fs) < alive fs
number_within [] b live = absurd (none-some None live)
number_within (f ∷ fs) zero live = rw (same_some f None live) (omega (arith, alive-none fs))
number_within (None ∷ fs) (suc b) live = let rest = number_within fs b live in omega (arith, rest, alive-none fs, alive-none (take b fs))
number_within (Some v ∷ fs) (suc b) live = let rest = number_within fs b live in omega (arith, rest, alive-some v fs, alive-some v (take b fs))

pub number_rises : (fs : List (Option Row)) (a b : ℕ) → a < b → slice_get fs a ≡ Some None → alive (take a fs) < alive (take b fs)
number_rises [] a b lt live = absurd (none-some None live)
number_rises (f ∷ fs) a zero lt live = absurd (omega (arith, lt))
number_rises (f ∷ fs) zero (suc b) lt live = rw (same_some f None live) (omega (arith, alive-none (take b fs)))
number_rises (None ∷ fs) (suc a) (suc b) lt live = let rest = number_rises fs a b (omega (arith, lt)) live in omega (arith, rest, alive-none (take a fs), alive-none (take b fs))
number_rises (Some v ∷ fs) (suc a) (suc b) lt live = let rest = number_rises fs a b (omega (arith, lt)) live in omega (arith, rest, alive-some v (take a fs), alive-some v (take b fs))

pub number_reflects : (fs : List (Option Row)) (a b : ℕ) → slice_get fs b ≡ Some None → alive (take a fs) < alive (take b fs) → a < b
number_reflects fs a b live lt = by (cases_lt a b)
  where
    not_below : b < a → ⊥
    not_below less = let other = number_rises fs b a less live in omega (arith, other, lt)

    not_same : a ≡ b → ⊥
    not_same same = let equal : alive (take a fs) ≡ alive (take b fs) = ap (λ n. alive (take n fs)) same in omega (arith, equal, lt)

    by : (a < b) ⊎ (b ≤ a) → a < b
    by (inl less) = less
    by (inr past) = absurd (again (cases_lt b a))
      where
        again : (b < a) ⊎ (a ≤ b) → ⊥
        again (inl less) = not_below less
        again (inr le) = not_same (omega (arith, past, le))

-- the entries of live ids
pub live_filter : {X : Type 0} (g : Entry → X) (fs : List Row) (es : List Entry) → of_live (forwards_of fs es) (map g es) ≡ map g (filter is_live_entry es)
unfolding of_live
live_filter g fs [] = refl
live_filter g fs (e ∷ es) = by e.death (live_filter g fs es)
  where
    by : (death : ℕ) → of_live (forwards_of fs es) (map g es) ≡ map g (filter is_live_entry es)
        → of_live (forward_of fs death ∷ forwards_of fs es) (g e ∷ map g es) ≡ map g (cond (nat_eq death 0) (e ∷ filter is_live_entry es) (filter is_live_entry es))
    by zero rest = ap (λ l. g e ∷ l) rest
    by (suc place) rest = rest ∙ ap (map g) (sym (cond-false (nat_eq (suc place) 0) (e ∷ filter is_live_entry es) (filter is_live_entry es) (not_zero place)))

pub alive_filter : (fs : List Row) (es : List Entry) → length (filter is_live_entry es) ≡ alive (forwards_of fs es)
alive_filter fs es =
    sym (length-map (filter is_live_entry es) (λ (e : Entry). e)) ∙ ap length (sym (live_filter (λ (e : Entry). e) fs es))
    ∙ length-of_live (forwards_of fs es) (map (λ (e : Entry). e) es) (omega (arith, length-map es (λ (e : Entry). forward_of fs e.death), length-map es (λ (e : Entry). e)))

-- counted over entries or over forwards
pub alive_entries : (fs : List Row) (es : List Entry) → count_by is_live_entry es ≡ alive (forwards_of fs es)
alive_entries fs [] = refl
alive_entries fs (e ∷ es) =
    sum_by-cons (λ (e : Entry). cond (is_live_entry e) 1 0) e es ∙ ap₂ (λ b n. cond b 1 0 + n) (sym (is_none-forward fs e.death)) (alive_entries fs es)
    ∙ sym (sum_by-cons (λ (f : Option Row). cond (is_none f) 1 0) (forward_of fs e.death) (forwards_of fs es))
