-- Whether a line is too deep can be decided.
use Rattle.std.proofs.Common.{◌≡◌, ℕ, ◌+◌, ◌<◌, ◌≤◌, ◌⊎◌, inl, inr, cond, List, [], ◌∷◌, ◌++◌, refl, sym, ap, ◌∙◌, arith}
use Rattle.std.specs.Prelude.{count_by}
use Rattle.std.proofs.lemmas.Bool.{cases_lt}
use Rattle.std.proofs.lemmas.List.Sums.{sum_by-cons}
use Rattle.ve_formats.specs.Tokens.{Token}
use Rattle.ve_formats.specs.PresentationText.{is_sign, IsTooDeep, most_open}

-- behind tokens with so many signs
abbrev DeepBehind : ℕ → ℕ → List Token → Type 0
DeepBehind closed opened tokens =
    (front back : List Token) × (tokens ≡ front ++ back) × (closed + count_by (is_sign 41) front + most_open < opened + count_by (is_sign 40) front)

pub one_if : ℕ → Token → ℕ
one_if b t = cond (is_sign b t) 1 0

pub count-cons : (b : ℕ) (t : Token) (tokens : List Token) → count_by (is_sign b) (t ∷ tokens) ≡ one_if b t + count_by (is_sign b) tokens
unfolding one_if
count-cons b t tokens = sum_by-cons (one_if b) t tokens

abbrev DeepLater : ℕ → ℕ → Token → List Token → Type 0
DeepLater closed opened t tokens = DeepBehind (closed + one_if 41 t) (opened + one_if 40 t) tokens

deep_behind : (closed opened : ℕ) (tokens : List Token) → DeepBehind closed opened tokens ⊎ (DeepBehind closed opened tokens → ⊥)
deep_behind closed opened [] = by_count (cases_lt (closed + most_open) opened)
  where
    nowhere : opened ≤ closed + most_open → (front back : List Token) → [] ≡ front ++ back → closed + count_by (is_sign 41) front + most_open < opened + count_by (is_sign 40) front → ⊥
    nowhere few [] back are more = omega arith
    nowhere few (t ∷ front) back are more = absurd (cc)

    by_count : (closed + most_open < opened) ⊎ (opened ≤ closed + most_open) → DeepBehind closed opened [] ⊎ (DeepBehind closed opened [] → ⊥)
    by_count (inl many) = inl ([], [], refl, omega arith)
    by_count (inr few) = inr (λ h. nowhere few h.0 h.1 h.2 h.3)
deep_behind closed opened (t ∷ tokens) = by_count (cases_lt (closed + most_open) opened) (deep_behind (closed + one_if 41 t) (opened + one_if 40 t) tokens)
  where
    nowhere : opened ≤ closed + most_open → (DeepLater closed opened t tokens → ⊥) → (front back : List Token) → (t ∷ tokens) ≡ front ++ back
        → closed + count_by (is_sign 41) front + most_open < opened + count_by (is_sign 40) front → ⊥
    nowhere few later [] back are more = omega arith
    nowhere few later (u ∷ front) back are more =
        let same : u ≡ t = (cc) in
        let rest : tokens ≡ front ++ back = (cc) in
        let left : one_if 41 u ≡ one_if 41 t = ap (one_if 41) same in
        let right : one_if 40 u ≡ one_if 40 t = ap (one_if 40) same in
        later (front, back, rest, omega (arith, count-cons 41 u front, count-cons 40 u front))

    by_count : (closed + most_open < opened) ⊎ (opened ≤ closed + most_open) → DeepLater closed opened t tokens ⊎ (DeepLater closed opened t tokens → ⊥) → DeepBehind closed opened (t ∷ tokens) ⊎ (DeepBehind closed opened (t ∷ tokens) → ⊥)
    by_count (inl many) later = inl ([], t ∷ tokens, refl, omega arith)
    by_count (inr few) (inl (front, back, are, more)) = inl (t ∷ front, back, ap (λ ts. t ∷ ts) are, omega (arith, count-cons 41 t front, count-cons 40 t front))
    by_count (inr few) (inr none) = inr (λ h. nowhere few none h.0 h.1 h.2 h.3)

pub too_deep_or_not : (tokens : List Token) → IsTooDeep tokens ⊎ (IsTooDeep tokens → ⊥)
too_deep_or_not tokens = by_test (deep_behind 0 0 tokens)
  where
    by_test : DeepBehind 0 0 tokens ⊎ (DeepBehind 0 0 tokens → ⊥) → IsTooDeep tokens ⊎ (IsTooDeep tokens → ⊥)
    by_test (inl (front, back, are, more)) = inl (front, back, are, omega arith)
    by_test (inr none) = inr (λ h. none (h.0, h.1, h.2, omega (arith, h.3)))

-- a line that is too deep isn't blank
pub deep_some : (tokens : List Token) → IsTooDeep tokens → tokens ≡ [] → ⊥
deep_some tokens h e = nowhere h.0 h.1 (sym e ∙ h.2) h.3
  where
    nowhere : (front back : List Token) → [] ≡ front ++ back → count_by (is_sign 41) front + most_open < count_by (is_sign 40) front → ⊥
    nowhere [] back are more = omega arith
    nowhere (t ∷ front) back are more = absurd (cc)
