-- Rows of live ids are moved together.
use Rattle.std.proofs.Common.{◌≡◌, ℕ, zero, suc, ◌+◌, ◌*◌, ◌<◌, ◌≤◌, inl, inr, true, false, cond, Some, List, [], length, take, get_or, refl, sym, ap, ◌∙◌, arith}
use Rattle.std.specs.Prelude.{count_by, nat_eq, slice_get}
use Rattle.std.specs.List.{AllWithin}
use Rattle.std.proofs.Math.Nat.{mul-le-mul_right}
use Rattle.std.proofs.lemmas.Bool.{cases_eq}
use Rattle.std.proofs.lemmas.List.{length-take, get_or-take, take_all, take-take}
use Rattle.std.proofs.lemmas.List.Sums.{count_by_more_yes, count_by_more_no, sum_by-take-le, count_by-le-length}
use Rattle.std.proofs.lemmas.Option.{slice_get_within, get_or_from_slice_get}
use Rattle.ve_theory.specs.Answers.{Row}
use Rattle.ve_table.specs.declared.entry.Entry.{Entry}
use Rattle.ve_table.specs.Deaths.{is_live_entry}
use Rattle.ve_table.specs.Rows.{AreLiveRows, AreMoved}
use Rattle.ve_table.proofs.Deaths.{no_entry}
use Rattle.ve_table.proofs.Listed.{place_below}

-- how many of the first ids are live
abbrev pub live_before : List Entry → ℕ → ℕ
live_before es b = count_by is_live_entry (take b es)

-- the rows of the live ones of the first i ids, k in number, stand together, and those of the others as they were
pub record IsSoFar (n : ℕ) (es : List Entry) (old now : List Row) (i k : ℕ) : Type 0 where
  pub kept_is : k ≡ live_before es i
  pub kept_few : k ≤ i
  pub count : length now ≡ length old
  pub done : (b x : ℕ) (e : Entry) → b < i → slice_get es b ≡ Some e → e.death ≡ 0 → x < n → get_or now (live_before es b * n + x) [] ≡ get_or old (b * n + x) []
  pub rest : (j : ℕ) → i * n ≤ j → get_or now j [] ≡ get_or old j []

live_of : (e : Entry) → e.death ≡ 0 → is_live_entry e ≡ true
live_of e live = ap (λ n. nat_eq n 0) live

pub no_more : (es : List Entry) (a b : ℕ) → a ≤ b → live_before es a ≤ live_before es b
no_more es a b le = let fewer = sum_by-take-le (λ e. cond (is_live_entry e) 1 0) (take b es) a in let same : live_before (take b es) a ≡ live_before es a = ap (count_by is_live_entry) (take-take a b es le) in omega (arith, fewer, same)

-- a live id is below the later numbers
below : (es : List Entry) (b i : ℕ) (e : Entry) → b < i → slice_get es b ≡ Some e → e.death ≡ 0 → live_before es b < live_before es i
below es b i e lt found live =
    let within : b < length es = slice_get_within es b e found in
    let here : is_live_entry (get_or es b e) ≡ true = ap is_live_entry (get_or_from_slice_get es b e e found) ∙ live_of e live in
    let more = count_by_more_yes is_live_entry es b e within here in
    omega (arith, more, no_more es (b + 1) i (omega (arith, lt)))

pub step_dead : (n : ℕ) (es : List Entry) (old now : List Row) (i k : ℕ) (d : Entry) → IsSoFar n es old now i k → i < length es → is_live_entry (get_or es i d) ≡ false → IsSoFar n es old now (i + 1) k
step_dead n es old now i k d so_far lt dead = record {
  kept_is = so_far.kept_is ∙ sym (count_by_more_no is_live_entry es i d lt dead);
  kept_few = omega (arith, so_far.kept_few);
  count = so_far.count;
  done = λ b x e less found live letter.
      elim (cases_eq b i) [
        | inl same ↦ absurd (differ (sym dead ∙ ap is_live_entry (ap (λ m. get_or es m d) (sym same) ∙ get_or_from_slice_get es b e d found) ∙ live_of e live))
        | inr other ↦ so_far.done b x e (omega (arith, less, other)) found live letter
      ];
  rest = λ j le. so_far.rest j (let more : i * n ≤ (i + 1) * n = mul-le-mul_right n (omega arith) in omega (arith, le, more));
}
  where
    differ : false ≡ true → ⊥
    differ bad = cc

pub step_live : (n : ℕ) (es : List Entry) (old now new : List Row) (i k : ℕ) (d : Entry) → IsSoFar n es old now i k → i < length es → is_live_entry (get_or es i d) ≡ true → AreMoved n i k now new
    → IsSoFar n es old new (i + 1) (k + 1)
step_live n es old now new i k d so_far lt live moved = record {
  kept_is = ap (λ m. m + 1) so_far.kept_is ∙ sym (count_by_more_yes is_live_entry es i d lt live);
  kept_few = omega (arith, so_far.kept_few);
  count = moved.count ∙ so_far.count;
  done = λ b x e less found is_live letter.
      elim (cases_eq b i) [
        | inl same ↦
            ap (λ m. get_or new (m * n + x) []) (ap (live_before es) same ∙ sym so_far.kept_is) ∙ moved.moved x letter
            ∙ so_far.rest (i * n + x) (omega arith) ∙ ap (λ m. get_or old (m * n + x) []) (sym same)
        | inr other ↦
            let earlier : b < i = omega (arith, less, other) in
            let lower = below es b i e earlier found is_live in
            moved.below (live_before es b * n + x) (place_below n (live_before es b) k x (omega (arith, lower, so_far.kept_is)) letter) ∙ so_far.done b x e earlier found is_live letter
      ];
  rest = λ j le. moved.above j le ∙ so_far.rest j (let more : i * n ≤ (i + 1) * n = mul-le-mul_right n (omega arith) in omega (arith, le, more));
}

-- an id that is at its place
pub stays : (n i : ℕ) (rows : List Row) → AreMoved n i i rows rows
stays n i rows = record { count = refl; moved = λ x letter. refl; below = λ k lt. refl; above = λ k le. refl }

-- the first ids are live
pub all_kept : (es : List Entry) (least : ℕ) → least ≤ length es → AllWithin (λ (e : Entry). e.death ≡ 0) es 0 least → live_before es least ≡ least
all_kept es zero le live = refl
all_kept es (suc i) le live =
    let here : is_live_entry (get_or es i no_entry) ≡ true = live_of (get_or es i no_entry) (live i no_entry (omega arith) (omega arith)) in
    let more = count_by_more_yes is_live_entry es i no_entry (omega (arith, le)) here in
    let rest = all_kept es i (omega (arith, le)) (λ k d low lt. live k d low (omega (arith, lt))) in
    let next : live_before es (suc i) ≡ live_before es (i + 1) = ap (live_before es) (let e : suc i ≡ i + 1 = omega arith in e) in
    omega (arith, next, more, rest)

pub start : (n : ℕ) (es : List Entry) (rows : List Row) (least : ℕ) → least ≤ length es → AllWithin (λ (e : Entry). e.death ≡ 0) es 0 least → IsSoFar n es rows rows least least
start n es rows least le live = record {
  kept_is = sym (all_kept es least le live);
  kept_few = omega arith;
  count = refl;
  done = λ b x e lt found is letter. ap (λ m. get_or rows (m * n + x) []) (all_kept es b (omega (arith, lt, le)) (λ k d low less. live k d low (omega (arith, lt, less))));
  rest = λ j past. refl;
}

pub finish : (n : ℕ) (es : List Entry) (old now : List Row) (i k : ℕ) → IsSoFar n es old now i k → length es ≤ i → AreLiveRows n es old (take (k * n) now)
finish n es old now i k so_far past = record {
  rows = λ b x e found live letter.
      let within : b < i = omega (arith, past, slice_get_within es b e found) in
      get_or-take (k * n) now (live_before es b * n + x) [] (place_below n (live_before es b) k x (omega (arith, below es b i e within found live, so_far.kept_is)) letter) ∙ so_far.done b x e within found live letter;
  places = λ b x e found live letter place.
      let within : b < i = omega (arith, past, slice_get_within es b e found) in
      let lower : live_before es b ≤ b = omega (arith, count_by-le-length is_live_entry (take b es), length-take b es) in
      let less : live_before es b * n ≤ b * n = mul-le-mul_right n lower in
      let first = place_below n (live_before es b) k x (omega (arith, below es b i e within found live, so_far.kept_is)) letter in
      omega (arith, first, less, place, so_far.count, length-take (k * n) now);
  within = omega (arith, length-take (k * n) now, ap (λ m. m * n) (so_far.kept_is ∙ ap (count_by is_live_entry) (take_all i es past)));
}
