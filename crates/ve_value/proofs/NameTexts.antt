-- Names are texts.
use Rattle.std.proofs.Common.{◌≡◌, ℕ, zero, suc, ◌<◌, ◌||◌, ◌&&◌, nat_le, nat_eq, List, [], ◌∷◌, ◌⊎◌, inl, inr, ◌≤◌, refl, arith}
use Rattle.std.specs.Prelude.{IsTrue}
use Rattle.std.specs.List.{list_all}
use Rattle.std.specs.Prelude.{Result, Ok, Err, MatchResult, IsOk}
use Rattle.std.specs.Str.{IsAscii, IsUtf8}
use Rattle.std.proofs.lemmas.Bool.{and_parts, or_cases, leb-true, eqb-true}
use Rattle.std.proofs.lemmas.Str.{IsUtf8-from_ascii}
use Rattle.ve_theory.specs.Validity.{is_name, is_name_letter, is_digit}

below : (low high b : ℕ) → high < 128 → IsTrue (nat_le low b && nat_le b high) → b < 128
below low high b small h = let under : b ≤ high = leb-true b high (and_parts _ _ h).1 in omega arith

letter_ascii : (b : ℕ) → IsTrue (is_name_letter b) → b < 128
letter_ascii b h = by_case (or_cases _ _ h)
  where
    by_range : IsTrue (nat_le 65 b && nat_le b 90) ⊎ IsTrue (nat_le 97 b && nat_le b 122) → b < 128
    by_range (inl h) = below 65 90 b (omega arith) h
    by_range (inr h) = below 97 122 b (omega arith) h

    by_case : IsTrue ((nat_le 65 b && nat_le b 90) || (nat_le 97 b && nat_le b 122)) ⊎ IsTrue (nat_eq b 95) → b < 128
    by_case (inl h) = by_range (or_cases _ _ h)
    by_case (inr h) = let is : b ≡ 95 = eqb-true b 95 h in omega arith

part_ascii : (b : ℕ) → IsTrue (is_name_letter b || is_digit b) → b < 128
part_ascii b h = by_case (or_cases _ _ h)
  where
    by_case : IsTrue (is_name_letter b) ⊎ IsTrue (is_digit b) → b < 128
    by_case (inl h) = letter_ascii b h
    by_case (inr h) = below 48 57 b (omega arith) h

parts_ascii : (bs : List ℕ) → IsTrue (list_all (λ c. is_name_letter c || is_digit c) bs) → IsAscii bs
parts_ascii [] h i = omega arith
parts_ascii (b ∷ bs) h zero = part_ascii b (and_parts _ _ h).0
parts_ascii (b ∷ bs) h (suc i) = parts_ascii bs (and_parts _ _ h).1 i

name_ascii : (bs : List ℕ) → IsTrue (is_name bs) → IsAscii bs
unfolding is_name
name_ascii [] h i = omega arith
name_ascii (b ∷ bs) h zero = letter_ascii b (and_parts _ _ h).0
name_ascii (b ∷ bs) h (suc i) = parts_ascii bs (and_parts _ _ h).1 i

pub name_text : (bs : List ℕ) → IsTrue (is_name bs) → IsUtf8 bs
name_text bs h = IsUtf8-from_ascii bs (name_ascii bs h)

-- bytes that are a text are taken as one
pub taken_as_text : {A B : Type 0} (P : A → Type 0) (Q : B → Type 0) (bs : List ℕ) (r : Result A B) → IsUtf8 bs → MatchResult r P (λ e. ¬ (IsUtf8 bs) × Q e) → IsOk r
taken_as_text P Q bs (Ok text) h cases = refl
taken_as_text P Q bs (Err e) h cases = absurd (cases.0 h)
