-- Rows in one list, by id and then letter, put into a list for each letter.
use Rattle.std.proofs.Common.{◌≡◌, ℕ, ◌+◌, ◌*◌, ◌-◌, ◌<◌, ◌≤◌, inl, inr, Some, List, [], ◌∷◌, ◌++◌, length, get_or, take, refl, sym, ap, ap₂, subst, ◌∙◌, arith, Vec, Global}
use Rattle.std.specs.Prelude.{All, reverse, slice_get}
use Rattle.std.proofs.Math.ListN.{set, length-set, get_or-append}
use Rattle.std.proofs.Math.Nat.{mul-le-mul_right}
use Rattle.std.proofs.lemmas.Bool.{cases_eq, cases_lt}
use Rattle.std.proofs.lemmas.List.{get_or_push, get_or-reverse, length-reverse, length_push, length-take-le, get_or-take, take-take, get_or-set_same, get_or-set_other}
use Rattle.std.proofs.lemmas.Option.{get_or_from_slice_get, slice_get_within, slice_get-get_or}
use Rattle.ve_theory.specs.Answers.{Row}
use Rattle.ve_table.specs.ByLetter.{AreRowsOfLetter, AreDealt}

-- nothing is dealt yet
pub none_dealt : (letters : ℕ) (rows : List Row) (lists : List (Vec Row Global)) → length lists ≡ letters → All (λ (list : Vec Row Global). list.items ≡ []) lists → AreDealt letters 0 0 rows lists
none_dealt letters rows lists count empty = record {
  count = count;
  below = λ x list found before. absurd (omega (arith, before));
  rest = λ x list found past. subst (AreRowsOfLetter letters 0 x rows) (sym (nothing x list found)) (record { count = refl; each = λ b v at. cc });
}
  where
    nothing : (x : ℕ) (list : Vec Row Global) → slice_get lists x ≡ Some list → list.items ≡ []
    nothing x list found =
        let P : Vec Row Global → Type 0 = λ l. l.items ≡ [] in
        subst P (get_or_from_slice_get lists x list list found) (empty x list (slice_get_within lists x list found))

-- one more row
pub row_more : (letters ids x : ℕ) (rows : List Row) (list : List Row) (w : Row)
    → AreRowsOfLetter letters ids x rows list → get_or rows (ids * letters + x) [] ≡ w → AreRowsOfLetter letters (ids + 1) x rows (list ++ w ∷ [])
row_more letters ids x rows list w are here = record { count = omega (arith, are.count, length_push list w); each = each }
  where
    each : (b : ℕ) (v : Row) → slice_get (list ++ w ∷ []) b ≡ Some v → get_or rows (b * letters + x) [] ≡ v
    each b v found = elim (cases_lt b (length list)) [
      | inl before ↦
          let same : get_or list b v ≡ v = sym (get_or-append list (w ∷ []) v b before) ∙ get_or_from_slice_get (list ++ w ∷ []) b v v found in
          are.each b v (slice_get-get_or list b v before ∙ ap Some same)
      | inr past ↦
          let within : b < length (list ++ w ∷ []) = slice_get_within (list ++ w ∷ []) b v found in
          let last : length list ≡ b = omega (arith, length_push list w, past, within) in
          let same : w ≡ v = sym (get_or_push list w v b last) ∙ get_or_from_slice_get (list ++ w ∷ []) b v v found in
          ap (λ a. get_or rows (a * letters + x) []) (sym last ∙ are.count) ∙ here ∙ same
    ]

-- all letters are dealt once more
pub round_ends : (letters ids letter : ℕ) (rows : List Row) (lists : List (Vec Row Global)) → letters ≤ letter → AreDealt letters ids letter rows lists → AreDealt letters (ids + 1) 0 rows lists
round_ends letters ids letter rows lists all are = record {
  count = are.count;
  below = λ x list found before. absurd (omega (arith, before));
  rest = λ x list found past. are.below x list found (omega (arith, all, are.count, slice_get_within lists x list found));
}

-- one letter of a round
module _ (letters ids letter : ℕ) (rows : List Row) (lists : List (Vec Row Global)) (old list : Vec Row Global) (w : Row)
    (are : AreDealt letters ids letter rows lists) (found : slice_get lists letter ≡ Some old)
    (pushed : list.items ≡ old.items ++ w ∷ []) (here : get_or rows (ids * letters + letter) [] ≡ w) where
  elsewhere : (x : ℕ) (l : Vec Row Global) → (x ≡ letter → ⊥) → slice_get (set lists letter list) x ≡ Some l → slice_get lists x ≡ Some l
  elsewhere x l other at =
      let within : x < length lists = (let inside : x < length (set lists letter list) = slice_get_within (set lists letter list) x l at in omega (arith, inside, length-set lists letter list)) in
      slice_get-get_or lists x l within ∙ ap Some (sym (get_or-set_other lists letter x list l other) ∙ get_or_from_slice_get (set lists letter list) x l l at)

  at_letter : (l : Vec Row Global) → slice_get (set lists letter list) letter ≡ Some l → list ≡ l
  at_letter l at = sym (get_or-set_same lists letter list l (slice_get_within lists letter old found)) ∙ get_or_from_slice_get (set lists letter list) letter l l at

  grown : AreRowsOfLetter letters (ids + 1) letter rows list.items
  grown = subst (AreRowsOfLetter letters (ids + 1) letter rows) (sym pushed) (row_more letters ids letter rows old.items w (are.rest letter old found (omega arith)) here)

  through_letter : (x : ℕ) (l : Vec Row Global) → slice_get (set lists letter list) x ≡ Some l → x < letter + 1 → AreRowsOfLetter letters (ids + 1) x rows l.items
  through_letter x l at before = elim (cases_eq x letter) [
    | inl same ↦
        let it : slice_get (set lists letter list) letter ≡ Some l = subst (λ y. slice_get (set lists letter list) y ≡ Some l) same at in
        subst (λ y. AreRowsOfLetter letters (ids + 1) y rows l.items) (sym same) (subst (λ (m : Vec Row Global). AreRowsOfLetter letters (ids + 1) letter rows m.items) (at_letter l it) grown)
    | inr other ↦ are.below x l (elsewhere x l other at) (omega (arith, before, other))
  ]

  pub letter_dealt : AreDealt letters ids (letter + 1) rows (set lists letter list)
  letter_dealt = record {
    count = length-set lists letter list ∙ are.count;
    below = through_letter;
    rest = λ x l at past. are.rest x l (elsewhere x l (omega (arith, past)) at) (omega (arith, past));
  }

-- what is left, from the place n on, of a list that was turned round
module _ {X : Type 0} (all old : List X) (n : ℕ) (are : old ≡ take (length all - n) (reverse all)) (some : n < length all) where
  width : length old ≡ length all - n
  width = ap length are ∙ length-take-le (length all - n) (reverse all) (omega (arith, length-reverse all))

  pub some_left : 0 < length old
  some_left = omega (arith, width, some)

  pub next_left : take (length old - 1) old ≡ take (length all - (n + 1)) (reverse all)
  next_left =
      ap₂ (λ m l. take (m - 1) l) width are ∙ take-take (length all - n - 1) (length all - n) (reverse all) (omega arith)
      ∙ (let fewer : length all - n - 1 ≡ length all - (n + 1) = omega arith in ap (λ m. take m (reverse all)) fewer)

  pub next_here : (d : X) → get_or old (length old - 1) d ≡ get_or all n d
  next_here d =
      ap₂ (λ m l. get_or l (m - 1) d) width are
      ∙ get_or-take (length all - n) (reverse all) (length all - n - 1) d (omega (arith, some))
      ∙ get_or-reverse all (length all - n - 1) d (omega (arith, some))
      ∙ (let place : length all - 1 - (length all - n - 1) ≡ n = omega (arith, some) in ap (λ m. get_or all m d) place)

-- a place of an id and a letter
pub place_within : (letters ids id letter places : ℕ) → places ≡ ids * letters → id < ids → letter < letters → id * letters + letter < places
place_within letters ids id letter places all before inside =
    let more : (id + 1) * letters ≤ ids * letters = mul-le-mul_right letters (omega (arith, before)) in
    let next : (id + 1) * letters ≡ id * letters + letters = omega arith in
    omega (arith, all, more, next, inside)
