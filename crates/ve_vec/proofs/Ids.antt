-- The ids of vectors.
use Rattle.std.proofs.Common.{◌≡◌, ℕ, ◌*◌, ◌%◌, ◌<◌, inl, inr, Bool, true, false, nat_eq, [], ◌∷◌, ◌++◌, get_or, All, refl, sym, ap, ◌∙◌, arith}
use Rattle.std.proofs.Math.Nat.{mod-eq_of_lt, zero-mod}
use Rattle.std.proofs.lemmas.Bool.{cases_Bool}
use Rattle.std.proofs.lemmas.List.Elements.{All-nil, All-cons, All-head, All-tail, All-append}
use Rattle.ve_theory.specs.Combinations.{Combination, scaled, coefficient, AllBefore, IsReduced, IsReducedOf}
use Rattle.ve_vec.specs.Vectors.{AllIds}
use Rattle.ve_vec.proofs.Coefficients.{coefficient-other, coefficient-first, coefficient-below}

pub AllIds-scaled : (among : ℕ → Bool) (c : ℕ) (v : Combination ℕ) → AllIds among v → AllIds among (scaled c v)
unfolding scaled
AllIds-scaled among c [] all = All-nil (λ (t : ℕ × ℕ). among t.0 ≡ true)
AllIds-scaled among c (t ∷ v) all =
    All-cons (λ (t : ℕ × ℕ). among t.0 ≡ true) (t.0, c * t.1) (scaled c v) (All-head (λ (t : ℕ × ℕ). among t.0 ≡ true) t v all)
    (AllIds-scaled among c v (All-tail (λ (t : ℕ × ℕ). among t.0 ≡ true) t v all))

pub AllIds-append : (among : ℕ → Bool) (u v : Combination ℕ) → AllIds among u → AllIds among v → AllIds among (u ++ v)
AllIds-append among u v = All-append (λ (t : ℕ × ℕ). among t.0 ≡ true) u v

-- an id outside has no coefficient
coefficient-outside : (among : ℕ → Bool) (v : Combination ℕ) (k : ℕ) → AllIds among v → among k ≡ false → coefficient nat_eq v k ≡ 0
unfolding coefficient
coefficient-outside among [] k all outside = refl
coefficient-outside among (t ∷ v) k all outside =
    let head = All-head (λ (t : ℕ × ℕ). among t.0 ≡ true) t v all in
    coefficient-other t v k (λ same. cc (head, outside, ap among same))
    ∙ coefficient-outside among v k (All-tail (λ (t : ℕ × ℕ). among t.0 ≡ true) t v all) outside

-- what a reduced vector has at each place
record IsPlace (p : ℕ) (v : Combination ℕ) (t : ℕ × ℕ) : Type 0 where
  positive : 0 < t.1
  residue : t.1 < p
  coefficient_is : coefficient nat_eq v t.0 ≡ t.1

places_later : (p : ℕ) (t : ℕ × ℕ) (v w : Combination ℕ) → All (IsPlace p v) w → AllBefore ◌<◌ t.0 w → All (IsPlace p (t ∷ v)) w
unfolding AllBefore
places_later p t v [] all below = All-nil (IsPlace p (t ∷ v))
places_later p t v (s ∷ w) all below =
    let here = All-head (IsPlace p v) s w all in
    All-cons (IsPlace p (t ∷ v)) s w
    (record { positive = here.positive; residue = here.residue; coefficient_is = coefficient-other t v s.0 (omega (arith, below.0)) ∙ here.coefficient_is })
    (places_later p t v w (All-tail (IsPlace p v) s w all) below.1)

places : (p : ℕ) (v : Combination ℕ) → IsReduced ◌<◌ p v → All (IsPlace p v) v
unfolding IsReduced
places p [] reduced = All-nil (IsPlace p [])
places p (t ∷ v) reduced =
    let none = coefficient-below t.0 t.0 v (omega arith) reduced.2 in
    All-cons (IsPlace p (t ∷ v)) t v
    (record { positive = reduced.0; residue = reduced.1; coefficient_is = omega (arith, coefficient-first t v, none) })
    (places_later p t v v (places p v reduced.3) reduced.2)

-- a reduced vector has no id that the sum has not
pub ids_of_reduced : (p : ℕ) (among : ℕ → Bool) (v e : Combination ℕ) → IsReducedOf ◌<◌ nat_eq p v e → AllIds among e → AllIds among v
ids_of_reduced p among v e of all k d within =
    let place = places p v of.reduced k d within in
    let id = (get_or v k d).0 in
    elim (cases_Bool (among id)) [
      | inl inside ↦ inside
      | inr outside ↦
          let none : (get_or v k d).1 ≡ 0 =
          sym (mod-eq_of_lt place.residue) ∙ ap (λ n. n % p) (sym place.coefficient_is)
          ∙ of.alike id ∙ ap (λ n. n % p) (coefficient-outside among e id all outside) ∙ zero-mod p in
          absurd (omega (arith, place.positive))
    ]

pub ids_of_sum : (p by : ℕ) (among : ℕ → Bool) (u v w : Combination ℕ) → IsReducedOf ◌<◌ nat_eq p w (u ++ scaled by v) → AllIds among u → AllIds among v → AllIds among w
ids_of_sum p by among u v w of left right =
    ids_of_reduced p among w (u ++ scaled by v) of (AllIds-append among u (scaled by v) left (AllIds-scaled among by v right))
