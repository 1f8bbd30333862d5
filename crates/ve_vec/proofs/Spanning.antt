-- Sums over a span of ids, as numbers are added to and collected.
use Rattle.std.proofs.Common.{◌≡◌, ℕ, zero, suc, ◌+◌, ◌*◌, ◌%◌, ◌<◌, ◌≤◌, cond, Bool, true, false, nat_eq, All, List, [], ◌∷◌, ◌++◌, length, drop, get_or, refl, sym, ap, subst, ◌∙◌, add-one, add-zero, append-nil, arith, eq-eqb}
use Rattle.std.proofs.Math.ListN.{set, replicate, length-set}
use Rattle.std.proofs.Math.Nat.{mod-mod, zero-mod}
use Rattle.std.proofs.Math.Seq.{drop-cons}
use Rattle.std.proofs.lemmas.Bool.{cond-true}
use Rattle.std.proofs.lemmas.List.{drop_all, get_or-set_same, map-append}
use Rattle.std.proofs.lemmas.List.Elements.{All-head, All-tail}
use Rattle.ve_theory.specs.Combinations.{Combination, scaled, coefficient, Alike, AllBefore, IsReduced, IsReducedOf}
use Rattle.ve_vec.specs.declared.term.Term.{Term}
use Rattle.ve_vec.specs.Spans.{AllBetween, spanned}
use Rattle.ve_vec.specs.Terms.{pairs}
use Rattle.ve_vec.proofs.Coefficients.{coefficient-append, coefficient-other}
use Rattle.ve_vec.proofs.Joining.{IsReduced-join}
use Rattle.ve_vec.proofs.Merging.{exchanged, at_key, at_key-add}

nothing : (q : Bool) → ◌≡◌ {A = ℕ} (cond q 0 0) 0
nothing true = refl
nothing false = refl

-- numbers that are all 0 are the zero sum
pub coefficient-zeros : (low n k : ℕ) → coefficient nat_eq (spanned low (replicate n 0)) k ≡ 0
unfolding coefficient spanned
coefficient-zeros low zero k = refl
coefficient-zeros low (suc n) k = omega (arith, nothing (nat_eq low k), coefficient-zeros (low + 1) n k)

pub zeros : (p low n : ℕ) → Alike nat_eq p (spanned low (replicate n 0)) []
unfolding coefficient
zeros p low n = λ k. ap (λ m. m % p) (coefficient-zeros low n k)

-- a number grows by d
coefficient-set : (p low : ℕ) (numbers : List ℕ) (at m d e k : ℕ) → at < length numbers → m % p ≡ (get_or numbers at e + d) % p
    → coefficient nat_eq (spanned low (set numbers at m)) k % p ≡ (coefficient nat_eq (spanned low numbers) k + cond (nat_eq (low + at) k) d 0) % p
unfolding coefficient spanned
coefficient-set p low [] at m d e k within same = absurd (omega arith)
coefficient-set p low (n ∷ numbers) zero m d e k within same =
    let rest : ℕ = coefficient nat_eq (spanned (low + 1) numbers) k in
    exchanged p rest (cond (nat_eq low k) m 0) (cond (nat_eq low k) n 0 + cond (nat_eq low k) d 0) _ _
    (omega arith) (rw add-zero (omega arith)) (at_key-add p (nat_eq low k) m n d same)
coefficient-set p low (n ∷ numbers) (suc at) m d e k within same =
    let place : (low + 1) + at ≡ low + suc at = omega arith in
    let rest : ℕ = coefficient nat_eq (spanned (low + 1) numbers) k in
    exchanged p (cond (nat_eq low k) n 0) (coefficient nat_eq (spanned (low + 1) (set numbers at m)) k) (rest + cond (nat_eq (low + suc at) k) d 0) _ _
    refl (omega arith)
    (coefficient-set p (low + 1) numbers at m d e k (omega arith) same ∙ ap (λ j. (rest + cond (nat_eq j k) d 0) % p) place)

-- no key is below the first one
coefficient-under : (low : ℕ) (numbers : List ℕ) (k : ℕ) → k < low → coefficient nat_eq (spanned low numbers) k ≡ 0
unfolding coefficient spanned
coefficient-under low [] k less = refl
coefficient-under low (n ∷ numbers) k less = coefficient-other (low, n) (spanned (low + 1) numbers) k (omega (arith, less)) ∙ coefficient-under (low + 1) numbers k (omega (arith, less))

-- each number is the coefficient of its key
pub coefficient-spanned : (low : ℕ) (numbers : List ℕ) (at d k : ℕ) → low + at ≡ k → at < length numbers → coefficient nat_eq (spanned low numbers) k ≡ get_or numbers at d
unfolding coefficient spanned
coefficient-spanned low [] at d k place within = absurd (omega arith)
coefficient-spanned low (n ∷ numbers) zero d k place within =
    let here : low ≡ k = omega (arith, place) in
    omega (arith, cond-true (nat_eq low k) n 0 (eq-eqb low k here), coefficient-under (low + 1) numbers k (omega (arith, here)))
coefficient-spanned low (n ∷ numbers) (suc at) d k place within =
    coefficient-other (low, n) (spanned (low + 1) numbers) k (omega (arith, place)) ∙ coefficient-spanned (low + 1) numbers at d k (omega (arith, place)) (omega (arith, within))

-- a number is set to 0
coefficient-cleared : (low : ℕ) (numbers : List ℕ) (at d k : ℕ) → at < length numbers
    → coefficient nat_eq (spanned low numbers) k ≡ coefficient nat_eq (spanned low (set numbers at 0)) k + cond (nat_eq (low + at) k) (get_or numbers at d) 0
unfolding coefficient spanned
coefficient-cleared low [] at d k within = absurd (omega arith)
coefficient-cleared low (n ∷ numbers) zero d k within = rw add-zero (omega (arith, nothing (nat_eq low k)))
coefficient-cleared low (n ∷ numbers) (suc at) d k within =
    let place : (low + 1) + at ≡ low + suc at = omega arith in
    omega (arith, coefficient-cleared (low + 1) numbers at d k (omega (arith, within)), ap (λ j. cond (nat_eq j k) (get_or numbers at d) 0) place)

pub nothing_left : (low : ℕ) (numbers : List ℕ) (at k : ℕ) → low + at ≡ k → at < length numbers → coefficient nat_eq (spanned low (set numbers at 0)) k ≡ 0
nothing_left low numbers at k place within =
    coefficient-spanned low (set numbers at 0) at 0 k place (rw length-set within) ∙ get_or-set_same numbers at 0 0 within

-- the residue of a number is taken out
pub residue_taken : (p q low : ℕ) (numbers : List ℕ) (at d id : ℕ) → q ≡ p → low + at ≡ id → at < length numbers
    → Alike nat_eq p (spanned low numbers) ((id, get_or numbers at d % q) ∷ spanned low (set numbers at 0))
unfolding coefficient
residue_taken p q low numbers at d id same place within = λ k.
    let number : ℕ = get_or numbers at d in
    let rest : ℕ = coefficient nat_eq (spanned low (set numbers at 0)) k in
    exchanged p rest (cond (nat_eq id k) number 0) (cond (nat_eq id k) (number % q) 0) _ _
    (coefficient-cleared low numbers at d k within ∙ ap (λ j. rest + cond (nat_eq j k) number 0) place)
    (omega arith)
    (at_key p (nat_eq id k) number (number % q) (sym (ap (λ m. (number % m) % p) same ∙ mod-mod number p)))

-- what is summed up, with the terms that are left
pub record Summing (p low by : ℕ) (numbers : List ℕ) (left : List Term) (e : Combination ℕ) : Type 0 where
  pub alike : Alike nat_eq p (spanned low numbers ++ scaled by (pairs left)) e

pub sum_started : (p low by : ℕ) (numbers : List ℕ) (left : List Term) → Summing p low by numbers left (spanned low numbers ++ scaled by (pairs left))
sum_started p low by numbers left = record { alike = λ k. refl }

pub term_added : (p low by : ℕ) (numbers : List ℕ) (left rest : List Term) (t : Term) (e : Combination ℕ) (at m d : ℕ) → left ≡ t ∷ rest → low + at ≡ t.id → at < length numbers
    → m % p ≡ (get_or numbers at d + by * t.coef) % p → Summing p low by numbers left e → Summing p low by (set numbers at m) rest e
unfolding scaled coefficient
term_added p low by numbers left rest t e at m d left_is place within same summing = record {
  alike = λ k.
      let before : ℕ = coefficient nat_eq (spanned low numbers) k in
      let after : ℕ = coefficient nat_eq (spanned low (set numbers at m)) k in
      exchanged p (coefficient nat_eq (scaled by (pairs rest)) k) after (before + cond (nat_eq t.id k) (by * t.coef) 0) _ _
      (coefficient-append (spanned low (set numbers at m)) (scaled by (pairs rest)) k ∙ omega arith)
      (coefficient-append (spanned low numbers) ((t.id, by * t.coef) ∷ scaled by (pairs rest)) k ∙ omega arith)
      (coefficient-set p low numbers at m (by * t.coef) d k within same ∙ ap (λ j. (before + cond (nat_eq j k) (by * t.coef) 0) % p) place)
      ∙ (rw left_is at summing).alike k;
}

pub sum_done : (p low by : ℕ) (numbers : List ℕ) (left : List Term) (e : Combination ℕ) → left ≡ [] → Summing p low by numbers left e → Alike nat_eq p (spanned low numbers) e
unfolding scaled
sum_done p low by numbers left e none summing = λ k. rw append-nil at ((rw none at summing).alike k)

-- the residues of the numbers from a place on, as terms
pub record Collecting (p low : ℕ) (numbers : List ℕ) (at : ℕ) (terms : Combination ℕ) : Type 0 where
  pub reduced : IsReduced ◌<◌ p terms
  pub above : AllBefore (λ j k. k ≤ j) (low + at) terms
  pub alike : Alike nat_eq p terms (spanned (low + at) (drop at numbers))

pub none_collected : (p low : ℕ) (numbers : List ℕ) (at : ℕ) → length numbers ≤ at → Collecting p low numbers at []
unfolding IsReduced AllBefore spanned
none_collected p low numbers at past = record { reduced = tt; above = tt; alike = rw (drop_all at numbers past) (λ k. refl) }

above_next : (i j : ℕ) (v : Combination ℕ) → i < j → AllBefore (λ j k. k ≤ j) j v → AllBefore (λ j k. k < j) i v
unfolding AllBefore
above_next i j [] less above = tt
above_next i j (t ∷ v) less above = (omega (arith, above.0), above_next i j v less above.1)

above_here : (i j : ℕ) (v : Combination ℕ) → i ≤ j → AllBefore (λ j k. k ≤ j) j v → AllBefore (λ j k. k ≤ j) i v
unfolding AllBefore
above_here i j [] less above = tt
above_here i j (t ∷ v) less above = (omega (arith, above.0), above_here i j v less above.1)

above_push : (i : ℕ) (v : Combination ℕ) (c : ℕ) → AllBefore (λ j k. k ≤ j) i v → AllBefore (λ j k. k ≤ j) i (v ++ (i, c) ∷ [])
unfolding AllBefore
above_push i [] c above = (omega arith, tt)
above_push i (t ∷ v) c above = (above.0, above_push i v c above.1)

module _ (p low : ℕ) (numbers : List ℕ) (at next d : ℕ) (terms : Combination ℕ) (step : at + 1 ≡ next) (within : at < length numbers) (collecting_next : Collecting p low numbers next terms) where
  collecting : Collecting p low numbers (at + 1) terms
  collecting = subst (λ j. Collecting p low numbers j terms) (sym step) collecting_next

  next_is : spanned (low + at) (drop at numbers) ≡ (low + at, get_or numbers at d) ∷ spanned (low + (at + 1)) (drop (at + 1) numbers)
  unfolding spanned
  next_is =
      let place : (low + at) + 1 ≡ low + (at + 1) = omega arith in
      let first : drop at numbers ≡ get_or numbers at d ∷ drop (at + 1) numbers = rw add-one (drop-cons numbers at d within) in
      ap (spanned (low + at)) first ∙ ap (λ j. (low + at, get_or numbers at d) ∷ spanned j (drop (at + 1) numbers)) place

  -- the number's coefficient is put before what is collected
  put_before : (k : ℕ) → (coefficient nat_eq terms k + cond (nat_eq (low + at) k) (get_or numbers at d) 0) % p
      ≡ coefficient nat_eq (spanned (low + at) (drop at numbers)) k % p
  unfolding coefficient
  put_before k =
      rw next_is
      (exchanged p (cond (nat_eq (low + at) k) (get_or numbers at d) 0) (coefficient nat_eq terms k) (coefficient nat_eq (spanned (low + (at + 1)) (drop (at + 1) numbers)) k) _ _
      (omega arith) refl (collecting.alike k))

  collected : (c : ℕ) → 0 < c → c < p → c ≡ get_or numbers at d % p → Collecting p low numbers at (terms ++ (low + at, c) ∷ [])
  unfolding coefficient IsReduced AllBefore
  collected c positive residue c_is = record {
    reduced = IsReduced-join p (low + at) terms ((low + at, c) ∷ []) collecting.reduced (positive, residue, tt, tt)
        (above_next (low + at) (low + (at + 1)) terms (omega arith) collecting.above) (omega arith, tt);
    above = above_push (low + at) terms c (above_here (low + at) (low + (at + 1)) terms (omega arith) collecting.above);
    alike = λ k.
        exchanged p (coefficient nat_eq terms k) (cond (nat_eq (low + at) k) c 0) (cond (nat_eq (low + at) k) (get_or numbers at d) 0) _ _
        (coefficient-append terms ((low + at, c) ∷ []) k ∙ omega arith) refl
        (at_key p (nat_eq (low + at) k) c (get_or numbers at d) (ap (λ m. m % p) c_is ∙ mod-mod (get_or numbers at d) p))
        ∙ put_before k;
  }

  passed : get_or numbers at d % p ≡ 0 → Collecting p low numbers at terms
  passed none = record {
    reduced = collecting.reduced;
    above = above_here (low + at) (low + (at + 1)) terms (omega arith) collecting.above;
    alike = λ k.
        exchanged p (coefficient nat_eq terms k) (cond (nat_eq (low + at) k) 0 0) (cond (nat_eq (low + at) k) (get_or numbers at d) 0) _ _
        (omega (arith, nothing (nat_eq (low + at) k))) refl
        (at_key p (nat_eq (low + at) k) 0 (get_or numbers at d) (zero-mod p ∙ sym none))
        ∙ put_before k;
  }

-- the same, as the program computes it
module _ (p q low : ℕ) (numbers : List ℕ) (at next : ℕ) (large : 1 < p) (same : q ≡ p) (step : at + 1 ≡ next) (within : at < length numbers) where
  pub push_collected : (terms new : List Term) → 0 < get_or numbers at 0 % q → new ≡ terms ++ (record { id = low + at; coef = get_or numbers at 0 % q }) ∷ []
      → Collecting p low numbers next (pairs terms) → Collecting p low numbers at (pairs new)
  push_collected terms new positive new_is collecting =
      let residue : get_or numbers at 0 % q < p = omega arith in
      rw (new_is, map-append) (collected p low numbers at next 0 (pairs terms) step within collecting (get_or numbers at 0 % q) positive residue (ap (λ m. get_or numbers at 0 % m) same))

  pub pass_collected : (terms : Combination ℕ) → get_or numbers at 0 % q ≡ 0 → Collecting p low numbers next terms → Collecting p low numbers at terms
  pass_collected terms none collecting = passed p low numbers at next 0 terms step within collecting (ap (λ m. get_or numbers at 0 % m) (sym same) ∙ none)

pub all_collected : (p low : ℕ) (numbers : List ℕ) (terms : Combination ℕ) → Collecting p low numbers 0 terms → IsReducedOf ◌<◌ nat_eq p terms (spanned low numbers)
all_collected p low numbers terms collecting = record { reduced = collecting.reduced; alike = λ k. rw add-zero at (collecting.alike k) }

-- the ids of a span as places of its numbers
pub between_places : (low high n : ℕ) (v : Combination ℕ) → low + n ≡ high + 1 → AllBetween low high v → All (λ t. (low ≤ t.0) × (t.0 < low + n)) v
between_places low high n v ends all = λ at d within. let here = all at d within in (here.0, omega (arith, here.1))

pub place_at : (low n : ℕ) (xs : List Term) (i : ℕ) (d : Term) → i < length xs → All (λ t. (low ≤ t.0) × (t.0 < low + n)) (pairs xs) → (low ≤ (get_or xs i d).id) × ((get_or xs i d).id < low + n)
place_at low n [] i d inside all = absurd (omega arith)
place_at low n (x ∷ xs) zero d inside all = All-head (λ (t : ℕ × ℕ). (low ≤ t.0) × (t.0 < low + n)) _ _ all
place_at low n (x ∷ xs) (suc i) d inside all = place_at low n xs i d (omega arith) (All-tail (λ (t : ℕ × ℕ). (low ≤ t.0) × (t.0 < low + n)) _ _ all)

pub next_term : (xs : List Term) (i : ℕ) (d : Term) → i < length xs → drop i xs ≡ get_or xs i d ∷ drop (i + 1) xs
next_term xs i d within = rw add-one (drop-cons xs i d within)
