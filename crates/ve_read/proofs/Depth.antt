-- How deep the tokens of a line are, from the front on.
use Rattle.std.proofs.Common.{◌≡◌, ℕ, ◌+◌, ◌<◌, ◌≤◌, Bool, true, false, cond, List, [], ◌∷◌, ◌++◌, refl, sym, ap, ◌∙◌, arith}
use Rattle.std.specs.Prelude.{count_by}
use Rattle.std.specs.Int.{from_bool}
use Rattle.std.proofs.lemmas.List.Sums.{sum_by-cons}
use Rattle.ve_formats.specs.Tokens.{Token}
use Rattle.ve_formats.specs.PresentationText.{is_sign, IsTooDeep, most_open}

-- behind tokens with so many signs
abbrev pub IsDeepBehind : (closed opened : ℕ) → List Token → Type 0
IsDeepBehind closed opened tokens =
    (front back : List Token) × (tokens ≡ front ++ back) × (closed + count_by (is_sign 41) front + most_open < opened + count_by (is_sign 40) front)

-- the whole is too deep exactly where the rest is
pub record AreAsDeep (all : List Token) (closed opened : ℕ) (rest : List Token) : Type 0 where
  pub whole : IsDeepBehind closed opened rest → IsTooDeep all
  pub rest_is : IsTooDeep all → IsDeepBehind closed opened rest

one_if : ℕ → Token → ℕ
one_if b t = cond (is_sign b t) 1 0

count-cons : (b : ℕ) (t : Token) (tokens : List Token) → count_by (is_sign b) (t ∷ tokens) ≡ one_if b t + count_by (is_sign b) tokens
unfolding one_if
count-cons b t tokens = sum_by-cons (one_if b) t tokens

pub deep_from_start : (all : List Token) → AreAsDeep all 0 0 all
deep_from_start all = record {
  whole = λ h. (h.0, h.1, h.2, let more = h.3 in omega arith);
  rest_is = λ h. (h.0, h.1, h.2, let more = h.3 in omega arith);
}

-- too deep already
pub deep_here : (all rest : List Token) (closed opened : ℕ) → AreAsDeep all closed opened rest → closed + most_open < opened → IsTooDeep all
deep_here all rest closed opened same many = same.whole ([], rest, refl, let none : count_by (is_sign 41) [] ≡ 0 = refl in omega arith)

-- not too deep at the end
pub deep_nowhere : (all rest : List Token) (closed opened : ℕ) → AreAsDeep all closed opened rest → rest ≡ [] → opened ≤ closed + most_open → IsTooDeep all → ⊥
deep_nowhere all rest closed opened same none few deep = nowhere (same.rest_is deep).0 (same.rest_is deep).1 (sym none ∙ (same.rest_is deep).2) (same.rest_is deep).3
  where
    nowhere : (front back : List Token) → [] ≡ front ++ back → closed + count_by (is_sign 41) front + most_open < opened + count_by (is_sign 40) front → ⊥
    nowhere [] back are more = omega arith
    nowhere (t ∷ front) back are more = absurd (cc)

-- a test, counted
pub counted_if : (b : Bool) (n : ℕ) → n ≡ from_bool b → n ≡ cond b 1 0
counted_if true n is = is
counted_if false n is = is

pub counts_one : (b : Bool) → cond b 1 0 ≤ 1
counts_one true = omega arith
counts_one false = omega arith

-- one token further
module _ (all rest : List Token) (t : Token) (closed opened : ℕ) (few : opened ≤ closed + most_open) where
  pub deep_further : AreAsDeep all closed opened (t ∷ rest) → AreAsDeep all (closed + cond (is_sign 41 t) 1 0) (opened + cond (is_sign 40 t) 1 0) rest
  unfolding one_if
  deep_further same = record { whole = whole; rest_is = λ deep. later (same.rest_is deep).0 (same.rest_is deep).1 (same.rest_is deep).2 (same.rest_is deep).3 }
    where
      whole : IsDeepBehind (closed + one_if 41 t) (opened + one_if 40 t) rest → IsTooDeep all
      whole h = same.whole (t ∷ h.0, h.1, ap (λ ts. t ∷ ts) h.2, omega (arith, h.3, count-cons 41 t h.0, count-cons 40 t h.0))

      later : (front back : List Token) → (t ∷ rest) ≡ front ++ back → closed + count_by (is_sign 41) front + most_open < opened + count_by (is_sign 40) front
          → IsDeepBehind (closed + one_if 41 t) (opened + one_if 40 t) rest
      later [] back are more = absurd (omega arith)
      later (u ∷ front) back are more =
          let same_token : u ≡ t = (cc) in
          let others : rest ≡ front ++ back = (cc) in
          let left : one_if 41 u ≡ one_if 41 t = ap (one_if 41) same_token in
          let right : one_if 40 u ≡ one_if 40 t = ap (one_if 40) same_token in
          (front, back, others, omega (arith, count-cons 41 u front, count-cons 40 u front))
