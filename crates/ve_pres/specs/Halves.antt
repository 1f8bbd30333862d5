-- How a half is found.
use Rattle.std.specs.Prelude.{◌≡◌, ℕ, ◌-◌, ◌/◌, ◌++◌, List, drop, length, take, All, Some}
use Rattle.ve_theory.specs.Words.{Word, letters, start, times_all}
use Rattle.ve_theory.specs.Elements.{AlgebraElement, IsAlgebraElementOf, halved, inverse_of_letters}
use Rattle.ve_theory.specs.Presentations.{Presentation, HasLetters}

-- the word times the inverse of the letters, whose letters exist
pub record IsInverseProduct (P : Presentation) (word : Word) (letters : List ℕ) (product : Word) : Type 0 where
  pub inverse : List ℕ
  pub is_inverse : inverse_of_letters P.inverses letters ≡ Some inverse
  pub exist : HasLetters P inverse
  pub count : length inverse ≡ length letters
  pub is_product : product ≡ times_all word inverse

-- how many letters of the longer word stay
abbrev pub kept_of : (longer shorter : List ℕ) → ℕ
kept_of longer shorter = length longer - (length longer - length shorter) / 2

-- what the two words of a half are
pub record AreHalfWords (P : Presentation) (longer shorter : List ℕ) (left right : Word) : Type 0 where
  pub inverse : List ℕ
  pub is_inverse : inverse_of_letters P.inverses (drop (kept_of longer shorter) longer) ≡ Some inverse
  pub exist : HasLetters P inverse
  pub count : length inverse ≡ length (drop (kept_of longer shorter) longer)
  pub left_letters : letters left ≡ take (kept_of longer shorter) longer
  pub right_letters : letters right ≡ shorter ++ inverse
  pub left_start : start left ≡ 0
  pub right_start : start right ≡ 0

-- the half of an element, which is its own half
pub record IsHalf (P : Presentation) (element half : AlgebraElement) : Type 0 where
  pub is_half : IsAlgebraElementOf P.prime half (halved P.inverses element)
  pub letters : All (λ t. HasLetters P t.0) half
  pub own_half : IsAlgebraElementOf P.prime half (halved P.inverses half)
