-- Rows in one list, by id and then letter.
use Rattle.std.proofs.Common.{◌≡◌, ℕ, zero, suc, ◌+◌, ◌*◌, ◌-◌, ◌<◌, ◌≤◌, ◌⊎◌, inl, inr, false, true, Some, None, List, [], ◌∷◌, ◌++◌, length, map, get_or, refl, sym, ap, subst, ◌∙◌, arith}
use Rattle.std.specs.Prelude.{Option, All, IsSome, replicate, nat_lt, ◌↔◌}
use Rattle.std.specs.Option.{unwrap_or}
use Rattle.std.specs.List.{range_with_len}
use Rattle.std.proofs.Math.ListN.{set}
use Rattle.std.proofs.Math.Nat.{mul-le-mul_right}
use Rattle.std.proofs.lemmas.Bool.{cases_eq, cases_lt, cond-true, cond-false, lt-ltb, le-ltb}
use Rattle.std.proofs.lemmas.List.{same_lists, get_or_past, get_or_default, get_or_append_left, get_or-append_right, get_or-set_same, get_or-set_other}
use Rattle.std.proofs.lemmas.List.FromFn.{get_or-map-range_with_len, length-map-range_with_len}
use Rattle.ve_theory.specs.Answers.{Row}
use Rattle.ve_table.specs.Rows.{listed, row_placed}

abbrev pub row_in : List (List (Option Row)) → ℕ → ℕ → Option Row
row_in lists b x = get_or (get_or lists b []) x None

-- places

pub place_below : (n a b x : ℕ) → a < b → x < n → a * n + x < b * n
place_below n a b x lt letter =
    let more : (a + 1) * n ≤ b * n = mul-le-mul_right n (omega (arith, lt)) in
    let next : (a + 1) * n ≡ a * n + n = omega arith in
    omega (arith, more, next, letter)

pub place_past : (n a b x : ℕ) → a ≤ b → a * n ≤ b * n + x
place_past n a b x le = let more : a * n ≤ b * n = mul-le-mul_right n le in omega (arith, more)

pub same_place : (n a b x y : ℕ) → x < n → y < n → a * n + x ≡ b * n + y → a ≡ b
same_place n a b x y first second same = by (cases_lt a b) (cases_lt b a)
  where
    by : (a < b) ⊎ (b ≤ a) → (b < a) ⊎ (a ≤ b) → a ≡ b
    by (inl less) other = absurd (omega (arith, place_below n a b x less first, same))
    by (inr le) (inl less) = absurd (omega (arith, place_below n b a y less second, same))
    by (inr le) (inr other) = omega (arith, le, other)

-- each place is that of an id and a letter
pub at_place : (n k j : ℕ) → j < k * n → (q : ℕ) × (x : ℕ) × (q < k) × (x < n) × (j ≡ q * n + x)
at_place n zero j lt = absurd (omega (arith, lt))
at_place n (suc k) j lt =
    elim (cases_lt j n) [
      | inl first ↦ (0, j, omega arith, first, omega arith)
      | inr past ↦
          let rest : j - n < k * n = (let whole : suc k * n ≡ k * n + n = omega arith in omega (arith, lt, past, whole)) in
          let found = at_place n k (j - n) rest in
          (suc found.0, found.1, omega (arith, found.2), found.3, (let next : suc found.0 * n ≡ found.0 * n + n = omega arith in omega (arith, found.4, past, next)))
    ]

-- what the list says of an id and a letter

module _ (n ids : ℕ) (bounds : List ℕ) (rows : List Row) where
  pub count_listed : length (listed n ids bounds rows) ≡ ids
  count_listed = length-map-range_with_len (λ b. map (row_placed n bounds rows b) (range_with_len 0 n)) 0 ids

  list_at : (b : ℕ) (d : List (Option Row)) → b < ids → get_or (listed n ids bounds rows) b d ≡ map (row_placed n bounds rows b) (range_with_len 0 n)
  list_at b d lt = get_or-map-range_with_len (λ b. map (row_placed n bounds rows b) (range_with_len 0 n)) 0 ids b b d lt (omega arith)

  pub wide_listed : All (λ (row : List (Option Row)). length row ≡ n) (listed n ids bounds rows)
  wide_listed k d lt = ap length (list_at k d (omega (arith, lt, count_listed))) ∙ length-map-range_with_len (row_placed n bounds rows k) 0 n

  pub listed_at : (b x : ℕ) → b < ids → x < n → row_in (listed n ids bounds rows) b x ≡ row_placed n bounds rows b x
  listed_at b x id letter = ap (λ l. get_or l x None) (list_at b [] id) ∙ get_or-map-range_with_len (row_placed n bounds rows b) 0 n x x None letter (omega arith)

-- ids and letters past the last have no row
pub no_id : (lists : List (List (Option Row))) (b x : ℕ) → length lists ≤ b → row_in lists b x ≡ None
no_id lists b x past = ap (λ l. get_or l x None) (get_or_past lists b [] past) ∙ get_or_past [] x None (omega arith)

pub no_letter : (n : ℕ) (lists : List (List (Option Row))) (b x : ℕ) → All (λ (row : List (Option Row)). length row ≡ n) lists → n ≤ x → row_in lists b x ≡ None
no_letter n lists b x wide past =
    elim (cases_lt b (length lists)) [
      | inl lt ↦ get_or_past (get_or lists b []) x None (omega (arith, wide b [] lt, past))
      | inr le ↦ no_id lists b x le
    ]

-- where there is a row, and which

pub placed_below : (n b x : ℕ) (bounds : List ℕ) (rows : List Row) → b < get_or bounds x 0 → row_placed n bounds rows b x ≡ Some (get_or rows (b * n + x) [])
placed_below n b x bounds rows lt = cond-true (nat_lt b (get_or bounds x 0)) (Some (get_or rows (b * n + x) [])) None (lt-ltb b (get_or bounds x 0) lt)

pub placed_past : (n b x : ℕ) (bounds : List ℕ) (rows : List Row) → get_or bounds x 0 ≤ b → row_placed n bounds rows b x ≡ None
placed_past n b x bounds rows le = cond-false (nat_lt b (get_or bounds x 0)) (Some (get_or rows (b * n + x) [])) None (le-ltb b (get_or bounds x 0) le)

module _ (n ids : ℕ) (bounds : List ℕ) (rows : List Row) where
  pub listed_below : (b x : ℕ) → b < ids → x < n → b < get_or bounds x 0 → row_in (listed n ids bounds rows) b x ≡ Some (get_or rows (b * n + x) [])
  listed_below b x id letter lt = listed_at n ids bounds rows b x id letter ∙ placed_below n b x bounds rows lt

  pub listed_past : (b x : ℕ) → get_or bounds x 0 ≤ b → row_in (listed n ids bounds rows) b x ≡ None
  listed_past b x le = by (cases_lt b ids) (cases_lt x n)
    where
      by : (b < ids) ⊎ (ids ≤ b) → (x < n) ⊎ (n ≤ x) → row_in (listed n ids bounds rows) b x ≡ None
      by (inl id) (inl letter) = listed_at n ids bounds rows b x id letter ∙ placed_past n b x bounds rows le
      by (inl id) (inr past) = no_letter n (listed n ids bounds rows) b x (wide_listed n ids bounds rows) past
      by (inr past) letter = no_id (listed n ids bounds rows) b x (omega (arith, past, count_listed n ids bounds rows))

  pub listed_bounded : (b x : ℕ) → IsSome (row_in (listed n ids bounds rows) b x) → b < get_or bounds x 0
  listed_bounded b x some = elim (cases_lt b (get_or bounds x 0)) [ inl lt ↦ lt | inr le ↦ absurd (let bad : false ≡ true = subst IsSome (listed_past b x le) some in cc) ]

-- one list and lists of lists that say the same: a place without a row is zero

abbrev pub vector_in : List (List (Option Row)) → ℕ → ℕ → Row
vector_in lists b x = unwrap_or (row_in lists b x) []

abbrev pub Agree : ℕ → List Row → List (List (Option Row)) → Type 0
Agree n rows lists = (b x : ℕ) → x < n → get_or rows (b * n + x) [] ≡ vector_in lists b x

-- the ids below the bounds are those that have rows
abbrev pub AreBelow : (n ids : ℕ) → List ℕ → List (List (Option Row)) → Type 0
AreBelow n ids bounds lists = (b x : ℕ) → b < ids → x < n → IsSome (row_in lists b x) ↔ (b < get_or bounds x 0)

placed_is : (n b x : ℕ) (bounds : List ℕ) (rows : List Row) (o : Option Row) → get_or rows (b * n + x) [] ≡ unwrap_or o [] → (IsSome o ↔ (b < get_or bounds x 0)) → row_placed n bounds rows b x ≡ o
placed_is n b x bounds rows None same below =
    elim (cases_lt b (get_or bounds x 0)) [ inl lt ↦ absurd (let bad : false ≡ true = below.1 lt in cc) | inr le ↦ placed_past n b x bounds rows le ]
placed_is n b x bounds rows (Some v) same below = placed_below n b x bounds rows (below.0 refl) ∙ ap Some same

pub listed_is : (n ids : ℕ) (bounds : List ℕ) (rows : List Row) (lists : List (List (Option Row))) → length lists ≡ ids → All (λ (row : List (Option Row)). length row ≡ n) lists → Agree n rows lists → AreBelow n ids bounds lists
    → listed n ids bounds rows ≡ lists
listed_is n ids bounds rows lists count wide agree below =
    same_lists (listed n ids bounds rows) lists (count_listed n ids bounds rows ∙ sym count)
    (λ b d lt.
    let id : b < ids = omega (arith, lt, count_listed n ids bounds rows) in
    let there : b < length lists = omega (arith, id, count) in
    same_lists (get_or (listed n ids bounds rows) b d) (get_or lists b d) (wide_listed n ids bounds rows b d lt ∙ sym (wide b d there))
    (λ x c inside.
    let letter : x < n = omega (arith, inside, wide_listed n ids bounds rows b d lt) in
    let first : get_or (get_or (listed n ids bounds rows) b d) x c ≡ row_in (listed n ids bounds rows) b x =
    get_or_default (get_or (listed n ids bounds rows) b d) x c None inside ∙ ap (λ l. get_or l x None) (get_or_default (listed n ids bounds rows) b d [] lt) in
    let second : get_or (get_or lists b d) x c ≡ row_in lists b x =
    get_or_default (get_or lists b d) x c None (omega (arith, letter, wide b d there)) ∙ ap (λ l. get_or l x None) (get_or_default lists b d [] there) in
    first ∙ listed_at n ids bounds rows b x id letter ∙ placed_is n b x bounds rows (row_in lists b x) (agree b x letter) (below b x id letter) ∙ sym second))

-- the list of a table agrees with what is seen
pub listed_agrees : (n ids : ℕ) (bounds : List ℕ) (rows : List Row) → All (λ bound. bound ≤ ids) bounds → length bounds ≡ n → ((b x : ℕ) → x < n → get_or bounds x 0 ≤ b → get_or rows (b * n + x) [] ≡ []) → Agree n rows (listed n ids bounds rows)
listed_agrees n ids bounds rows within count rest b x letter =
    elim (cases_lt b (get_or bounds x 0)) [
      | inl lt ↦ ap (λ o. unwrap_or o []) (sym (listed_below n ids bounds rows b x (let le = within x 0 (omega (arith, letter, count)) in omega (arith, lt, le)) letter lt))
      | inr past ↦ rest b x letter past ∙ ap (λ o. unwrap_or o []) (sym (listed_past n ids bounds rows b x past))
    ]

pub listed_are_below : (n ids : ℕ) (bounds : List ℕ) (rows : List Row) → AreBelow n ids bounds (listed n ids bounds rows)
listed_are_below n ids bounds rows b x id letter = (listed_bounded n ids bounds rows b x, λ lt. subst IsSome (sym (listed_below n ids bounds rows b x id letter lt)) refl)

-- a row is set in both
pub set_agrees : (n : ℕ) (rows : List Row) (lists : List (List (Option Row))) (b x : ℕ) (v : Row) → Agree n rows lists → b < length lists → x < n → length (get_or lists b []) ≡ n → b * n + x < length rows
    → Agree n (set rows (b * n + x) v) (set lists b (set (get_or lists b []) x (Some v)))
set_agrees n rows lists b x v agree id letter wide place c y inside = by (cases_eq c b) (cases_eq y x)
  where
    new : List (Option Row)
    new = set (get_or lists b []) x (Some v)

    there : c ≡ b → get_or (set lists b new) c [] ≡ new
    there same = subst (λ m. get_or (set lists b new) m [] ≡ new) (sym same) (get_or-set_same lists b new [] id)

    elsewhere : (c * n + y ≡ b * n + x → ⊥) → get_or (set rows (b * n + x) v) (c * n + y) [] ≡ vector_in lists c y
    elsewhere differ = get_or-set_other rows (b * n + x) (c * n + y) v [] differ ∙ agree c y inside

    by : (c ≡ b) ⊎ (c ≡ b → ⊥) → (y ≡ x) ⊎ (y ≡ x → ⊥) → get_or (set rows (b * n + x) v) (c * n + y) [] ≡ vector_in (set lists b new) c y
    by (inl same) (inl here) =
        let first : get_or (set rows (b * n + x) v) (b * n + x) [] ≡ v = get_or-set_same rows (b * n + x) v [] place in
        let second : get_or new x None ≡ Some v = get_or-set_same (get_or lists b []) x (Some v) None (omega (arith, letter, wide)) in
        let place_is : c * n + y ≡ b * n + x = ap (λ m. m * n + y) same ∙ ap (λ m. b * n + m) here in
        ap (λ m. get_or (set rows (b * n + x) v) m []) place_is ∙ first
        ∙ sym (ap (λ o. unwrap_or o []) (ap (λ l. get_or l y None) (there same) ∙ ap (λ m. get_or new m None) here ∙ second))
    by (inl same) (inr other) =
        elsewhere (λ equal. other (let row : c * n ≡ b * n = ap (λ m. m * n) same in omega (arith, equal, row)))
        ∙ sym (ap (λ o. unwrap_or o []) (ap (λ l. get_or l y None) (there same) ∙ get_or-set_other (get_or lists b []) x y (Some v) None other ∙ ap (λ m. row_in lists m y) (sym same)))
    by (inr differ) here =
        elsewhere (λ equal. differ (same_place n c b y x inside letter equal)) ∙ sym (ap (λ o. unwrap_or o []) (ap (λ l. get_or l y None) (get_or-set_other lists b c new [] differ)))

-- an id without rows is added
pub push_agrees : {X : Type 0} (names : List X) (n : ℕ) (rows : List Row) (lists : List (List (Option Row))) → Agree n rows lists → Agree n rows (lists ++ map (λ _. None) names ∷ [])
push_agrees {X} names n rows lists agree c y inside = agree c y inside ∙ sym (ap (λ o. unwrap_or o []) (by (cases_lt c (length lists))))
  where
    empty : X → Option Row
    empty name = None

    none_in : (names : List X) (y : ℕ) → get_or (map empty names) y None ≡ None
    none_in [] zero = refl
    none_in [] (suc y) = refl
    none_in (name ∷ names) zero = refl
    none_in (name ∷ names) (suc y) = none_in names y

    last : (k : ℕ) → row_in (map empty names ∷ []) k y ≡ None
    last zero = none_in names y
    last (suc k) = no_id (map empty names ∷ []) (suc k) y (omega arith)

    by : (c < length lists) ⊎ (length lists ≤ c) → row_in (lists ++ map empty names ∷ []) c y ≡ row_in lists c y
    by (inl lt) = ap (λ l. get_or l y None) (get_or_append_left lists (map empty names ∷ []) [] c lt)
    by (inr past) = ap (λ l. get_or l y None) (get_or-append_right lists (map empty names ∷ []) (length lists) c [] refl past) ∙ last (c - length lists) ∙ sym (no_id lists c y past)

-- places of zero vectors say nothing
pub padded : (rows : List Row) (k j : ℕ) → get_or (rows ++ replicate k []) j [] ≡ get_or rows j []
padded rows k j =
    elim (cases_lt j (length rows)) [
      | inl lt ↦ get_or_append_left rows (replicate k []) [] j lt
      | inr past ↦ get_or-append_right rows (replicate k []) (length rows) j [] refl past ∙ zero_in k (j - length rows) ∙ sym (get_or_past rows j [] past)
    ]
  where
    zero_in : (k j : ℕ) → get_or (replicate {A = Row} k []) j [] ≡ []
    zero_in zero zero = refl
    zero_in zero (suc j) = refl
    zero_in (suc k) zero = refl
    zero_in (suc k) (suc j) = zero_in k j
