-- Pieces of a line, each after a space, and what stands around the last star of a word.
use Rattle.std.proofs.Common.{◌≡◌, ℕ, ◌+◌, ◌^◌, ◌<◌, ◌≤◌, Bool, true, false, ◌||◌, inl, inr, get_or, List, [], ◌∷◌, ◌++◌, length, All, arith, refl, sym, ap, subst, ◌∙◌, append_assoc}
use Rattle.std.specs.Prelude.{nat_eq, nat_le, not, IsTrue, IsFalse, decimal}
use Rattle.std.specs.List.{list_all}
use Rattle.std.proofs.lemmas.Bool.{and_parts, and_from, ne_eqb, eq-eqb, leb-true, cases_order}
use Rattle.std.proofs.lemmas.List.{append_cancel_left}
use Rattle.std.proofs.lemmas.List.Elements.{All-head, All-tail, All-get_or}
use Rattle.std.proofs.lemmas.Fmt.{decimal_injective}
use Rattle.ve_theory.specs.Validity.{is_name, is_name_letter, is_digit}
use Rattle.ve_theory.specs.Validity.{is_rooted, most_generators}
use Rattle.ve_theory.specs.Words.{Word, generator, times, start, letters}
use Rattle.ve_lemmas.proofs.Lists.{All-front, All-last}
use Rattle.ve_formats.specs.WordText.{word_text, letter_name}
use Rattle.ve_formats.specs.AnswerReading.{AreNames}
use Rattle.ve_formats.specs.Lines.{each_after_space}
pub use Rattle.ve_formats.specs.Pieces.{IsCutBy, IsWritten, Lacks}
use Rattle.ve_formats.specs.AnswerText.{numbered}
use Rattle.ve_formats.proofs.Decimals.{is_number-decimal, number_digits}

-- ---- the front of a text up to a byte

lacks_first : (b c : ℕ) (text : List ℕ) → Lacks b (c ∷ text) → c ≡ b → ⊥
lacks_first b c text lacks is =
    let test : not (nat_eq c b) ≡ true = (and_parts (not (nat_eq c b)) (list_all (λ d. not (nat_eq d b)) text) lacks).0 in
    let same : nat_eq c b ≡ true = eq-eqb c b is in
    absurd (clash (nat_eq c b) same test)
  where
    clash : (t : Bool) → t ≡ true → not t ≡ true → ⊥
    clash t is other = let bad : false ≡ true = ap not (sym is) ∙ other in absurd (cc)

pub fronts_once : (b : ℕ) (xs ys r s : List ℕ) → Lacks b xs → Lacks b ys → IsCutBy b r → IsCutBy b s → xs ++ r ≡ ys ++ s → (xs ≡ ys) × (r ≡ s)
fronts_once b [] [] r s lx ly cr cs is = (refl, is)
fronts_once b [] (y ∷ ys) [] s lx ly cr cs is = absurd (cc)
fronts_once b [] (y ∷ ys) (c ∷ r) s lx ly cr cs is = let same : c ≡ y = cc in absurd (lacks_first b y ys ly (sym same ∙ cr))
fronts_once b (x ∷ xs) [] r [] lx ly cr cs is = absurd (cc)
fronts_once b (x ∷ xs) [] r (c ∷ s) lx ly cr cs is = let same : x ≡ c = cc in absurd (lacks_first b x xs lx (same ∙ cs))
fronts_once b (x ∷ xs) (y ∷ ys) r s lx ly cr cs is =
    let first : x ≡ y = cc in
    let rest : xs ++ r ≡ ys ++ s = cc in
    let more = fronts_once b xs ys r s (and_parts (not (nat_eq x b)) (list_all (λ d. not (nat_eq d b)) xs) lx).1 (and_parts (not (nat_eq y b)) (list_all (λ d. not (nat_eq d b)) ys) ly).1 cr cs rest in
    ((λ i. first i ∷ more.0 i), more.1)

-- ---- pieces after spaces

pub after_space-cut : (pieces : List (List ℕ)) → IsCutBy 32 (each_after_space pieces)
unfolding each_after_space
after_space-cut [] = tt
after_space-cut (piece ∷ pieces) = refl

pub pieces_once : (xs ys : List (List ℕ)) → All (Lacks 32) xs → All (Lacks 32) ys → each_after_space xs ≡ each_after_space ys → xs ≡ ys
unfolding each_after_space
pieces_once [] [] ax ay is = refl
pieces_once [] (y ∷ ys) ax ay is = absurd (cc)
pieces_once (x ∷ xs) [] ax ay is = absurd (cc)
pieces_once (x ∷ xs) (y ∷ ys) ax ay is =
    let rest : x ++ each_after_space xs ≡ y ++ each_after_space ys = cc in
    let parts = fronts_once 32 x y (each_after_space xs) (each_after_space ys) (All-head (Lacks 32) x xs ax) (All-head (Lacks 32) y ys ay) (after_space-cut xs) (after_space-cut ys) rest in
    let more = pieces_once xs ys (All-tail (Lacks 32) x xs ax) (All-tail (Lacks 32) y ys ay) parts.1 in
    λ i. parts.0 i ∷ more i

-- ---- digits and names lack spaces and stars

pub differs : (c b : ℕ) → (c ≡ b → ⊥) → IsTrue (not (nat_eq c b))
differs c b other = ap not (ne_eqb c b other)

digits_lack : (b : ℕ) → b < 48 → (ds : List ℕ) → IsTrue (list_all is_digit ds) → Lacks b ds
digits_lack b below [] all = refl
digits_lack b below (d ∷ ds) all =
    let parts = and_parts (is_digit d) (list_all is_digit ds) all in
    let least : 48 ≤ d = leb-true 48 d (and_parts (nat_le 48 d) (nat_le d 57) parts.0).0 in
    and_from _ _ (differs d b (λ is. omega (arith, least))) (digits_lack b below ds parts.1)

pub decimal_lacks : (b n : ℕ) → b < 48 → n < 2 ^ 64 → Lacks b (decimal n)
decimal_lacks b n below small = digits_lack b below (decimal n) (number_digits (decimal n) (is_number-decimal n small))

-- ---- a word and a number

pub numbers_once : (word : List ℕ) (m n : ℕ) → m < 2 ^ 64 → n < 2 ^ 64 → numbered word m ≡ numbered word n → m ≡ n
numbers_once word m n small other is =
    let tails : 32 ∷ decimal m ≡ 32 ∷ decimal n = append_cancel_left word (32 ∷ decimal m) (32 ∷ decimal n) is in
    let same : decimal m ≡ decimal n = cc in
    decimal_injective m n small other same

-- ---- names

parts_lack : (b : ℕ) → IsFalse (is_name_letter b || is_digit b) → (text : List ℕ) → IsTrue (list_all (λ c. is_name_letter c || is_digit c) text) → Lacks b text
parts_lack b none [] all = refl
parts_lack b none (c ∷ text) all =
    let parts = and_parts (is_name_letter c || is_digit c) (list_all (λ d. is_name_letter d || is_digit d) text) all in
    and_from _ _ (differs c b (λ is. clash (subst (λ d. (is_name_letter d || is_digit d) ≡ true) is parts.0))) (parts_lack b none text parts.1)
  where
    clash : (is_name_letter b || is_digit b) ≡ true → ⊥
    clash is = let bad : false ≡ true = sym none ∙ is in absurd (cc)

letter_is_part : (b : ℕ) → is_name_letter b ≡ true → (is_name_letter b || is_digit b) ≡ true
letter_is_part b h = ap (λ t. t || is_digit b) h

pub name_lacks : (b : ℕ) → IsFalse (is_name_letter b || is_digit b) → (name : List ℕ) → IsTrue (is_name name) → Lacks b name
unfolding is_name
name_lacks b none [] h = absurd (cc)
name_lacks b none (c ∷ name) h =
    let parts = and_parts (is_name_letter c) (list_all (λ d. is_name_letter d || is_digit d) name) h in
    parts_lack b none (c ∷ name) (and_from _ _ (letter_is_part c parts.0) parts.1)

-- ---- the last star

lacks_not : (b : ℕ) (front back : List ℕ) → Lacks b (front ++ b ∷ back) → ⊥
lacks_not b [] back lacks = lacks_first b b back lacks refl
lacks_not b (c ∷ front) back lacks = lacks_not b front back (and_parts (not (nat_eq c b)) (list_all (λ d. not (nat_eq d b)) (front ++ b ∷ back)) lacks).1

pub last_once : (b : ℕ) (xs ys m n : List ℕ) → Lacks b m → Lacks b n → xs ++ b ∷ m ≡ ys ++ b ∷ n → (xs ≡ ys) × (m ≡ n)
last_once b [] [] m n lm ln is = let same : m ≡ n = cc in (refl, same)
last_once b [] (y ∷ ys) m n lm ln is = let rest : m ≡ ys ++ b ∷ n = cc in absurd (lacks_not b ys n (subst (Lacks b) rest lm))
last_once b (x ∷ xs) [] m n lm ln is = let rest : n ≡ xs ++ b ∷ m = cc in absurd (lacks_not b xs m (subst (Lacks b) rest ln))
last_once b (x ∷ xs) (y ∷ ys) m n lm ln is =
    let first : x ≡ y = cc in
    let rest : xs ++ b ∷ m ≡ ys ++ b ∷ n = cc in
    let more = last_once b xs ys m n lm ln rest in
    ((λ i. first i ∷ more.0 i), more.1)

-- ---- words

module _ (names : List (List ℕ)) (are : AreNames names) where
  name_at : (x : ℕ) → x < length names → IsTrue (is_name (get_or names x []))
  name_at x inside = (All-get_or (λ name. IsTrue (is_name name) × IsFalse (is_rooted name)) names x [] inside are.formed).0

  same_letter : (x y : ℕ) → x < length names → y < length names → get_or names x [] ≡ get_or names y [] → x ≡ y
  same_letter x y ix iy is =
      elim (cases_order x y) [ inl same ↦ same | inr more ↦ elim more [ inl less ↦ absurd (are.distinct x y [] less iy is) | inr above ↦ absurd (are.distinct y x [] above ix (sym is)) ] ]

  generator_lacks : (i : ℕ) → i < most_generators → Lacks 42 (101 ∷ decimal (i + 1))
  generator_lacks i less = and_from _ _ refl (decimal_lacks 42 (i + 1) (omega arith) (omega arith))

  pub words_once : (v w : Word) → IsWritten names v → IsWritten names w → word_text names v ≡ word_text names w → v ≡ w
  unfolding word_text letters start
  words_once (generator i) (generator j) hv hw is =
      let digits : decimal (i + 1) ≡ decimal (j + 1) = cc in
      let same : i + 1 ≡ j + 1 = decimal_injective (i + 1) (j + 1) (omega (arith, hv.0)) (omega (arith, hw.0)) digits in
      ap generator (omega (arith, same))
  words_once (generator i) (times w y) hv hw is =
      absurd (lacks_not 42 (word_text names w) (letter_name names y) (subst (Lacks 42) (is ∙ append_assoc (word_text names w) (42 ∷ []) (letter_name names y)) (generator_lacks i hv.0)))
  words_once (times v x) (generator j) hv hw is =
      absurd (lacks_not 42 (word_text names v) (letter_name names x) (subst (Lacks 42) (sym is ∙ append_assoc (word_text names v) (42 ∷ []) (letter_name names x)) (generator_lacks j hw.0)))
  words_once (times v x) (times w y) hv hw is =
      let lx : x < length names = All-last (λ z. z < length names) (letters v) x hv.1 in
      let ly : y < length names = All-last (λ z. z < length names) (letters w) y hw.1 in
      let split = sym (append_assoc (word_text names v) (42 ∷ []) (letter_name names x)) ∙ is ∙ append_assoc (word_text names w) (42 ∷ []) (letter_name names y) in
      let parts = last_once 42 (word_text names v) (word_text names w) (letter_name names x) (letter_name names y) (name_lacks 42 refl (letter_name names x) (name_at x lx)) (name_lacks 42 refl (letter_name names y) (name_at y ly)) split in
      let front : v ≡ w = words_once v w (hv.0, All-front (λ z. z < length names) (letters v) x hv.1) (hw.0, All-front (λ z. z < length names) (letters w) y hw.1) parts.0 in
      let last : x ≡ y = same_letter x y lx ly parts.1 in
      λ i. times (front i) (last i)
