-- Names are texts of ASCII.
use Rattle.std.proofs.Common.{◌≡◌, ℕ, ◌<◌, Bool, true, false, true≢false, inl, inr, Bor, List, [], ◌∷◌, length, ◌||◌, ◌&&◌, arith, refl, sym, ap, ◌∙◌}
use Rattle.std.specs.Prelude.{IsTrue, IsFalse, Option, Result, Ok, Err, MatchOption, MatchResult, nat_le, nat_eq}
use Rattle.std.specs.Result.{result_ok}
use Rattle.std.specs.List.{list_all}
use Rattle.std.specs.Str.{IsUtf8, IsAscii}
use Rattle.std.proofs.lemmas.Bool.{and_parts, or_cases, leb-true, eqb-true}
use Rattle.std.proofs.lemmas.Str.{IsUtf8-from_ascii}
use Rattle.std.proofs.lemmas.Str.Ascii.{IsAscii-nil, IsAscii-cons}
use Rattle.ve_theory.specs.Validity.{is_name, is_name_letter, is_digit}
use Rattle.ve_formats.specs.Tokens.{is_name_part}

between : (least most b : ℕ) → most < 128 → (nat_le least b && nat_le b most) ≡ true → b < 128
between least most b small is = omega (arith, leb-true b most (and_parts (nat_le least b) (nat_le b most) is).1)

letter_small : (b : ℕ) → is_name_letter b ≡ true → b < 128
letter_small b is =
    elim (or_cases ((nat_le 65 b && nat_le b 90) || (nat_le 97 b && nat_le b 122)) (nat_eq b 95) is) [
      | inl letter ↦ elim (or_cases (nat_le 65 b && nat_le b 90) (nat_le 97 b && nat_le b 122) letter) [
        | inl upper ↦ between 65 90 b (omega arith) upper
        | inr lower ↦ between 97 122 b (omega arith) lower
      ]
      | inr low_line ↦ omega (arith, eqb-true b 95 low_line)
    ]

part_small : (b : ℕ) → is_name_part b ≡ true → b < 128
part_small b is = elim (or_cases (is_name_letter b) (is_digit b) is) [
  | inl letter ↦ letter_small b letter
  | inr digit ↦ between 48 57 b (omega arith) digit
]

parts_ascii : (bytes : List ℕ) → list_all is_name_part bytes ≡ true → IsAscii bytes
parts_ascii [] all = IsAscii-nil
parts_ascii (b ∷ bytes) all =
    let parts = and_parts (is_name_part b) (list_all is_name_part bytes) all in
    IsAscii-cons b bytes (part_small b parts.0) (parts_ascii bytes parts.1)

pub name_is_text : (bytes : List ℕ) → is_name bytes ≡ true → IsUtf8 bytes
unfolding is_name
name_is_text [] is = absurd (true≢false (sym is))
name_is_text (b ∷ bytes) is =
    let parts = and_parts (is_name_letter b) (list_all is_name_part bytes) is in
    IsUtf8-from_ascii (b ∷ bytes) (IsAscii-cons b bytes (letter_small b parts.0) (parts_ascii bytes parts.1))

-- what text the bytes of a name are
pub text_found : {E : Type 0} (Fault : E → Type 0) (bytes : List ℕ) (read : Result (Bor (List ℕ)) E) → MatchResult read (λ text. (text.now ≡ bytes) × IsUtf8 bytes) (λ e. (¬ IsUtf8 bytes) × Fault e)
    → is_name bytes ≡ true → (found : Option (Bor (List ℕ))) → found ≡ result_ok read
    → MatchOption found (IsFalse (is_name bytes)) (λ name. (name.now ≡ bytes) × IsTrue (is_name bytes))
text_found Fault bytes (Ok text) cases is found same = rw same (cases.0, is)
text_found Fault bytes (Err e) cases is found same = absurd (cases.0 (name_is_text bytes is))

-- a name has a first letter, and nothing is no name
pub name_by_parts : (bytes rest : List ℕ) (first : ℕ) (t : Bool) → bytes ≡ first ∷ rest → t ≡ (is_name_letter first && list_all is_name_part rest) → t ≡ is_name bytes
unfolding is_name
name_by_parts bytes rest first t cut is = is ∙ sym (ap is_name cut)

pub nothing_is_no_name : (bytes : List ℕ) → length bytes ≡ 0 → false ≡ is_name bytes
unfolding is_name
nothing_is_no_name [] none = refl
nothing_is_no_name (b ∷ bytes) none = absurd (omega (arith, none))
