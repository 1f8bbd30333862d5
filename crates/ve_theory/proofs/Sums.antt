-- Linear algebra of formal sums. The weight of a sum under given numbers of its keys is linear in the sum. Two sums are alike
-- exactly where all their weights are congruent, so that an equation of sums is an equation of numbers.
use Rattle.std.proofs.Common.{◌≡◌, ℕ, ◌+◌, ◌*◌, ◌-◌, ◌%◌, ◌<◌, ◌≤◌, Bool, true, false, cond, ◌&&◌, nat_eq, List, [], ◌∷◌, ◌++◌, All, Decides, suc, ltb, refl, sym, ap, ap₂, ◌∙◌, append_assoc, arith, mul-le-mul_left, one-mul}
use Rattle.std.proofs.Math.Nat.{add-mod, mul-mod_right, zero-mod, add-mul-mod_self_left}
use mathlib.Core.Path.{fun_ext}
use Rattle.std.proofs.lemmas.Nat.{mul-mod}
use Rattle.std.proofs.lemmas.Bool.{cond-true, cond-false, and_parts, and_from, ltb-true}
use Rattle.std.proofs.lemmas.List.Elements.{All-head, All-tail, All-weaker, All-contains}
use Rattle.std.proofs.lemmas.List.Sums.{AllPass-from_list_all}
use Rattle.std.proofs.lemmas.Bool.Decides.{Decides-eqb}
use Rattle.ve_theory.specs.Residues.{primes, IsFieldPrime, Congruent}
use Rattle.ve_theory.specs.Combinations.{Combination, unit, scaled, difference, extended, coefficient, Alike}
use Rattle.ve_theory.specs.Words.{Word, generator, start, letters, times_all, same_letters, same_word, spelled_back}

-- congruences

pub congruent-add : (p a b c d : ℕ) → Congruent p a b → Congruent p c d → Congruent p (a + c) (b + d)
congruent-add p a b c d e f = add-mod a c p ∙ (ap₂ (λ x y. (x + y) % p) e f ∙ sym (add-mod b d p))

pub congruent-mul : (p a b c d : ℕ) → Congruent p a b → Congruent p c d → Congruent p (a * c) (b * d)
congruent-mul p a b c d e f = mul-mod a c p ∙ (ap₂ (λ x y. x * y % p) e f ∙ sym (mul-mod b d p))

-- weights

-- the sum of the coefficients, each times the number of its key
unfoldable pub weigh : {K : Type 0} → (K → ℕ) → Combination K → ℕ
weigh h [] = 0
weigh h (t ∷ v) = t.1 * h t.0 + weigh h v

pub weigh-append : {K : Type 0} (h : K → ℕ) (u v : Combination K) → weigh h (u ++ v) ≡ weigh h u + weigh h v
unfolding weigh
weigh-append h [] v = omega arith
weigh-append h (t ∷ u) v = omega (arith, weigh-append h u v)

pub weigh-scaled : {K : Type 0} (h : K → ℕ) (c : ℕ) (v : Combination K) → weigh h (scaled c v) ≡ c * weigh h v
unfolding weigh scaled
weigh-scaled h c [] = omega arith
weigh-scaled h c (t ∷ v) = omega (arith, weigh-scaled h c v)

pub weigh-unit : {K : Type 0} (h : K → ℕ) (k : K) → weigh h (unit k) ≡ h k
unfolding weigh
weigh-unit h k = omega arith

pub weigh-difference : {K : Type 0} (h : K → ℕ) (p : ℕ) (u v : Combination K) → weigh h (difference p u v) ≡ weigh h u + (p - 1) * weigh h v
weigh-difference h p u v = weigh-append h u (scaled (p - 1) v) ∙ ap (λ n. weigh h u + n) (weigh-scaled h (p - 1) v)

pub weigh-extended : {J K : Type 0} (h : K → ℕ) (f : J → Combination K) (v : Combination J) → weigh h (extended f v) ≡ weigh (λ j. weigh h (f j)) v
unfolding weigh extended
weigh-extended h f [] = refl
weigh-extended h f (t ∷ v) = omega (arith, weigh-append h (scaled t.1 (f t.0)) (extended f v), weigh-scaled h t.1 (f t.0), weigh-extended h f v)

pub weigh-add : {K : Type 0} (g h : K → ℕ) (v : Combination K) → weigh (λ k. g k + h k) v ≡ weigh g v + weigh h v
unfolding weigh
weigh-add g h [] = refl
weigh-add g h (t ∷ v) = omega (arith, weigh-add g h v)

pub weigh-times : {K : Type 0} (c : ℕ) (h : K → ℕ) (v : Combination K) → weigh (λ k. c * h k) v ≡ c * weigh h v
unfolding weigh
weigh-times c h [] = omega arith
weigh-times c h (t ∷ v) = omega (arith, weigh-times c h v)

pub weigh-le : {K : Type 0} (g h : K → ℕ) → ((k : K) → g k ≤ h k) → (v : Combination K) → weigh g v ≤ weigh h v
unfolding weigh
weigh-le g h le [] = omega arith
weigh-le g h le (t ∷ v) = omega (arith, mul-le-mul_left t.1 (le t.0), weigh-le g h le v)

-- numbers that are congruent at the sum's keys give congruent weights
pub weigh-congruent : {K : Type 0} (p : ℕ) (g h : K → ℕ) (v : Combination K) → All (λ t. Congruent p (g t.0) (h t.0)) v → Congruent p (weigh g v) (weigh h v)
unfolding weigh
weigh-congruent p g h [] same = refl
weigh-congruent {K} p g h (t ∷ v) same =
    congruent-add p (t.1 * g t.0) (t.1 * h t.0) (weigh g v) (weigh h v)
    (congruent-mul p t.1 t.1 (g t.0) (h t.0) refl (All-head (λ (s : K × ℕ). Congruent p (g s.0) (h s.0)) t v same))
    (weigh-congruent p g h v (All-tail (λ (s : K × ℕ). Congruent p (g s.0) (h s.0)) t v same))

-- no key has a number other than 0
pub weigh-zero : {K : Type 0} (h : K → ℕ) (v : Combination K) → ((k : K) → h k ≡ 0) → weigh h v ≡ 0
unfolding weigh
weigh-zero h [] zeros = refl
weigh-zero h (t ∷ v) zeros = omega (arith, ap (λ n. t.1 * n) (zeros t.0), weigh-zero h v zeros)

-- two sums may be taken in either order
pub weigh-swap : {J K : Type 0} (h : J → K → ℕ) (u : Combination J) (v : Combination K) → weigh (λ j. weigh (λ k. h j k) v) u ≡ weigh (λ k. weigh (λ j. h j k) u) v
unfolding weigh
weigh-swap h [] v = sym (weigh-zero (λ k. 0) v (λ k. refl))
weigh-swap h (t ∷ u) v =
    let first : weigh (λ k. t.1 * h t.0 k) v ≡ t.1 * weigh (λ k. h t.0 k) v = weigh-times t.1 (λ k. h t.0 k) v in
    let rest : weigh (λ j. weigh (λ k. h j k) v) u ≡ weigh (λ k. weigh (λ j. h j k) u) v = weigh-swap h u v in
    ap₂ (λ a b. a + b) (sym first) rest ∙ sym (weigh-add (λ k. t.1 * h t.0 k) (λ k. weigh (λ j. h j k) u) v)

-- sums with congruent weights

-- all weights are congruent
pub record SameWeights {K : Type 0} (p : ℕ) (u v : Combination K) : Type 0 where
  pub at : (h : K → ℕ) → Congruent p (weigh h u) (weigh h v)

pub SameWeights-refl : {K : Type 0} (p : ℕ) (u : Combination K) → SameWeights p u u
SameWeights-refl p u = record { at = λ h. refl }

pub SameWeights-sym : {K : Type 0} {p : ℕ} {u v : Combination K} → SameWeights p u v → SameWeights p v u
SameWeights-sym e = record { at = λ h. sym (e.at h) }

pub SameWeights-trans : {K : Type 0} {p : ℕ} {u v w : Combination K} → SameWeights p u v → SameWeights p v w → SameWeights p u w
SameWeights-trans e f = record { at = λ h. e.at h ∙ f.at h }

pub SameWeights_of : {K : Type 0} {p : ℕ} {u v : Combination K} → u ≡ v → SameWeights p u v
SameWeights_of {p} e = record { at = λ h. ap (λ w. weigh h w % p) e }

pub SameWeights-append : {K : Type 0} {p : ℕ} {u v r s : Combination K} → SameWeights p u v → SameWeights p r s → SameWeights p (u ++ r) (v ++ s)
SameWeights-append {p} {u} {v} {r} {s} e f = record {
  at = λ h. ap (λ n. n % p) (weigh-append h u r) ∙ (congruent-add p (weigh h u) (weigh h v) (weigh h r) (weigh h s) (e.at h) (f.at h) ∙ ap (λ n. n % p) (sym (weigh-append h v s)));
}

pub SameWeights-scaled : {K : Type 0} {p : ℕ} {u v : Combination K} (c : ℕ) → SameWeights p u v → SameWeights p (scaled c u) (scaled c v)
SameWeights-scaled {p} {u} {v} c e = record {
  at = λ h. ap (λ n. n % p) (weigh-scaled h c u) ∙ (congruent-mul p c c (weigh h u) (weigh h v) refl (e.at h) ∙ ap (λ n. n % p) (sym (weigh-scaled h c v)));
}

pub SameWeights-difference : {K : Type 0} {p : ℕ} {u v r s : Combination K} → SameWeights p u v → SameWeights p r s → SameWeights p (difference p u r) (difference p v s)
SameWeights-difference {p} e f = SameWeights-append e (SameWeights-scaled (p - 1) f)

pub SameWeights-extended : {J K : Type 0} {p : ℕ} (f : J → Combination K) {u v : Combination J} → SameWeights p u v → SameWeights p (extended f u) (extended f v)
SameWeights-extended {p} f {u} {v} e = record {
  at = λ h. ap (λ n. n % p) (weigh-extended h f u) ∙ (e.at (λ j. weigh h (f j)) ∙ ap (λ n. n % p) (sym (weigh-extended h f v)));
}

-- a function with the same values at the sum's keys
pub SameWeights-extended_by : {J K : Type 0} {p : ℕ} (f g : J → Combination K) (v : Combination J) → All (λ t. SameWeights p (f t.0) (g t.0)) v → SameWeights p (extended f v) (extended g v)
SameWeights-extended_by {J} {K} {p} f g v same = record {
  at = λ h. ap (λ n. n % p) (weigh-extended h f v)
      ∙ (weigh-congruent p (λ j. weigh h (f j)) (λ j. weigh h (g j)) v
      (All-weaker (λ (t : J × ℕ). SameWeights p (f t.0) (g t.0)) (λ (t : J × ℕ). Congruent p (weigh h (f t.0)) (weigh h (g t.0))) (λ t e. e.at h) v same)
      ∙ ap (λ n. n % p) (sym (weigh-extended h g v)));
}

-- coefficients

pub coefficient-weigh : {K : Type 0} (same : K → K → Bool) (v : Combination K) (k : K) → coefficient same v k ≡ weigh (λ j. cond (same j k) 1 0) v
unfolding weigh coefficient
coefficient-weigh same [] k = refl
coefficient-weigh same (t ∷ v) k = ap₂ (λ a b. a + b) (scaled_test (same t.0 k) t.1) (coefficient-weigh same v k)
  where
    scaled_test : (b : Bool) (c : ℕ) → cond b c 0 ≡ c * cond b 1 0
    scaled_test true c = omega arith
    scaled_test false c = omega arith

pub coefficient-append : {K : Type 0} (same : K → K → Bool) (u v : Combination K) (k : K) → coefficient same (u ++ v) k ≡ coefficient same u k + coefficient same v k
unfolding coefficient
coefficient-append same [] v k = omega arith
coefficient-append same (t ∷ u) v k = omega (arith, coefficient-append same u v k)

pub coefficient-scaled : {K : Type 0} (same : K → K → Bool) (c : ℕ) (v : Combination K) (k : K) → coefficient same (scaled c v) k ≡ c * coefficient same v k
coefficient-scaled same c v k = coefficient-weigh same (scaled c v) k ∙ (weigh-scaled (λ j. cond (same j k) 1 0) c v ∙ ap (λ n. c * n) (sym (coefficient-weigh same v k)))

-- a key that stands nowhere in the sum
pub coefficient-absent : {K : Type 0} (same : K → K → Bool) (v : Combination K) (k : K) → All (λ t. same t.0 k ≡ false) v → coefficient same v k ≡ 0
unfolding coefficient
coefficient-absent same [] k absent = refl
coefficient-absent {K} same (t ∷ v) k absent =
    let here : cond (same t.0 k) t.1 0 ≡ 0 = cond-false (same t.0 k) t.1 0 (All-head (λ (s : K × ℕ). same s.0 k ≡ false) t v absent) in
    let rest : coefficient same v k ≡ 0 = coefficient-absent same v k (All-tail (λ (s : K × ℕ). same s.0 k ≡ false) t v absent) in
    omega arith

pub Alike_from_weights : {K : Type 0} (same : K → K → Bool) {p : ℕ} {u v : Combination K} → SameWeights p u v → Alike same p u v
Alike_from_weights same {p} {u} {v} e =
    λ k. ap (λ n. n % p) (coefficient-weigh same u k) ∙ (e.at (λ j. cond (same j k) 1 0) ∙ ap (λ n. n % p) (sym (coefficient-weigh same v k)))

-- alike sums have congruent weights
module _ {K : Type 0} (same : K → K → Bool) (decides : (j k : K) → Decides (same j k) (j ≡ k)) where
  -- the numbers h with 0 at k, and with 0 at all keys of w
  zeroed : K → (K → ℕ) → K → ℕ
  zeroed k h j = cond (same j k) 0 (h j)

  zeroed_all : Combination K → (K → ℕ) → K → ℕ
  zeroed_all [] h = h
  zeroed_all (t ∷ w) h = zeroed_all w (zeroed t.0 h)

  zeroed-le : (k : K) (h : K → ℕ) (j : K) → zeroed k h j ≤ h j
  unfolding zeroed
  zeroed-le k h j = go (same j k) (h j)
    where
      go : (b : Bool) (n : ℕ) → cond b 0 n ≤ n
      go true n = omega arith
      go false n = omega arith

  zeroed-itself : (k : K) (h : K → ℕ) → zeroed k h k ≡ 0
  unfolding zeroed
  zeroed-itself k h = cond-true (same k k) 0 (h k) ((decides k k).1 refl)

  zeroed_all-le : (w : Combination K) (h : K → ℕ) (j : K) → zeroed_all w h j ≤ h j
  unfolding zeroed_all
  zeroed_all-le [] h j = omega arith
  zeroed_all-le (t ∷ w) h j = omega (arith, zeroed_all-le w (zeroed t.0 h) j, zeroed-le t.0 h j)

  -- what is left weighs nothing
  weigh-zeroed_all : (w : Combination K) (h : K → ℕ) → weigh (zeroed_all w h) w ≡ 0
  unfolding weigh zeroed_all
  weigh-zeroed_all [] h = refl
  weigh-zeroed_all (t ∷ w) h =
      let none : zeroed_all w (zeroed t.0 h) t.0 ≡ 0 = omega (arith, zeroed_all-le w (zeroed t.0 h) t.0, zeroed-itself t.0 h) in
      omega (arith, ap (λ n. t.1 * n) none, weigh-zeroed_all w (zeroed t.0 h))

  weigh-zeroed : (h : K → ℕ) (k : K) (v : Combination K) → weigh h v ≡ coefficient same v k * h k + weigh (zeroed k h) v
  unfolding weigh coefficient zeroed
  weigh-zeroed h k [] = omega arith
  weigh-zeroed h k (t ∷ v) =
      go (same t.0 k) t.1 (h t.0) (h k) (coefficient same v k) (weigh h v) (weigh (zeroed k h) v) (λ e. ap h ((decides t.0 k).0 e)) (weigh-zeroed h k v)
    where
      go : (b : Bool) (c x y n m r : ℕ) → (b ≡ true → x ≡ y) → m ≡ n * y + r → c * x + m ≡ (cond b c 0 + n) * y + (c * cond b 0 x + r)
      go true c x y n m r e rest = ap (λ z. c * z + m) (e refl) ∙ omega (arith, rest)
      go false c x y n m r e rest = omega (arith, rest)

  -- where u and v are alike, it is enough to compare the weights that leave keys out
  weights_without : (p : ℕ) (u v w : Combination K) (h : K → ℕ) → Alike same p u v → Congruent p (weigh (zeroed_all w h) u) (weigh (zeroed_all w h) v) → Congruent p (weigh h u) (weigh h v)
  unfolding zeroed_all
  weights_without p u v [] h alike rest = rest
  weights_without p u v (t ∷ w) h alike rest =
      ap (λ n. n % p) (weigh-zeroed h t.0 u)
      ∙ (congruent-add p (coefficient same u t.0 * h t.0) (coefficient same v t.0 * h t.0) (weigh (zeroed t.0 h) u) (weigh (zeroed t.0 h) v)
      (congruent-mul p (coefficient same u t.0) (coefficient same v t.0) (h t.0) (h t.0) (alike t.0) refl)
      (weights_without p u v w (zeroed t.0 h) alike rest)
      ∙ ap (λ n. n % p) (sym (weigh-zeroed h t.0 v)))

  pub weights_from_Alike : (p : ℕ) (u v : Combination K) → Alike same p u v → SameWeights p u v
  weights_from_Alike p u v alike = record {
    at = λ h.
        let at_u : weigh (zeroed_all v (zeroed_all u h)) u ≡ 0 =
        omega (arith, weigh-le (zeroed_all v (zeroed_all u h)) (zeroed_all u h) (zeroed_all-le v (zeroed_all u h)) u, weigh-zeroed_all u h) in
        let at_v : weigh (zeroed_all v (zeroed_all u h)) v ≡ 0 = weigh-zeroed_all v (zeroed_all u h) in
        weights_without p u v u h alike (weights_without p u v v (zeroed_all u h) alike (ap (λ n. n % p) (at_u ∙ sym at_v)));
  }

-- sums of sums

pub extended-append : {J K : Type 0} (f : J → Combination K) (u v : Combination J) → extended f (u ++ v) ≡ extended f u ++ extended f v
unfolding extended
extended-append f [] v = refl
extended-append f (t ∷ u) v = ap (λ r. scaled t.1 (f t.0) ++ r) (extended-append f u v) ∙ sym (append_assoc (scaled t.1 (f t.0)) (extended f u) (extended f v))

pub extended-scaled : {J K : Type 0} (p : ℕ) (f : J → Combination K) (c : ℕ) (v : Combination J) → SameWeights p (extended f (scaled c v)) (scaled c (extended f v))
extended-scaled p f c v = record {
  at = λ h. ap (λ n. n % p) (weigh-extended h f (scaled c v) ∙ (weigh-scaled (λ j. weigh h (f j)) c v ∙ (ap (λ n. c * n) (sym (weigh-extended h f v)) ∙ sym (weigh-scaled h c (extended f v)))));
}

pub extended-difference : {J K : Type 0} (p : ℕ) (f : J → Combination K) (u v : Combination J) → SameWeights p (extended f (difference p u v)) (difference p (extended f u) (extended f v))
extended-difference p f u v =
    SameWeights-trans {v = extended f u ++ extended f (scaled (p - 1) v)}
    (SameWeights_of (extended-append f u (scaled (p - 1) v)))
    (SameWeights-append (SameWeights-refl p (extended f u)) (extended-scaled p f (p - 1) v))

pub extended-extended : {I J K : Type 0} (p : ℕ) (f : J → Combination K) (g : I → Combination J) (v : Combination I) → SameWeights p (extended f (extended g v)) (extended (λ i. extended f (g i)) v)
extended-extended p f g v = record {
  at = λ h. ap (λ n. n % p)
      (weigh-extended h f (extended g v)
      ∙ (weigh-extended (λ j. weigh h (f j)) g v
      ∙ (ap (λ k. weigh k v) (fun_ext (λ i. sym (weigh-extended h f (g i)))) ∙ sym (weigh-extended h (λ i. extended f (g i)) v))));
}

pub extended-unit : {J K : Type 0} (p : ℕ) (f : J → Combination K) (j : J) → SameWeights p (extended f (unit j)) (f j)
extended-unit p f j = record { at = λ h. ap (λ n. n % p) (weigh-extended h f (unit j) ∙ weigh-unit (λ i. weigh h (f i)) j) }

pub extended-by_units : {K : Type 0} (p : ℕ) (v : Combination K) → SameWeights p (extended unit v) v
extended-by_units p v = record { at = λ h. ap (λ n. n % p) (weigh-extended h unit v ∙ ap (λ k. weigh k v) (fun_ext (λ k. weigh-unit h k))) }

-- each part vanishes
pub extended_vanishes : {J K : Type 0} (p : ℕ) (f : J → Combination K) (v : Combination J) → All (λ t. SameWeights p (f t.0) []) v → SameWeights p (extended f v) []
unfolding extended scaled
extended_vanishes p f v zeros = SameWeights-trans (SameWeights-extended_by f (λ j. []) v zeros) (nothing_extended v)
  where
    nothing_extended : {J K : Type 0} (v : Combination J) → SameWeights {K = K} p (extended (λ j. []) v) []
    nothing_extended [] = SameWeights-refl p []
    nothing_extended (t ∷ v) = nothing_extended v

-- the sum of differences is the difference of sums
pub differences-extended : {J K : Type 0} (p : ℕ) (f g : J → Combination K) (v : Combination J) → SameWeights p (extended (λ j. difference p (f j) (g j)) v) (difference p (extended f v) (extended g v))
differences-extended p f g v = record {
  at = λ h. ap (λ n. n % p)
      (weigh-extended h (λ j. difference p (f j) (g j)) v
      ∙ (ap (λ k. weigh k v) (fun_ext (λ j. weigh-difference h p (f j) (g j)))
      ∙ (weigh-add (λ j. weigh h (f j)) (λ j. (p - 1) * weigh h (g j)) v
      ∙ (ap (λ n. weigh (λ j. weigh h (f j)) v + n) (weigh-times (p - 1) (λ j. weigh h (g j)) v)
      ∙ (ap₂ (λ m n. m + (p - 1) * n) (sym (weigh-extended h f v)) (sym (weigh-extended h g v))
      ∙ sym (weigh-difference h p (extended f v) (extended g v)))))));
}

pub scaled-one : {K : Type 0} (p : ℕ) (v : Combination K) → SameWeights p (scaled 1 v) v
scaled-one p v = record { at = λ h. ap (λ n. n % p) (weigh-scaled h 1 v ∙ one-mul (weigh h v)) }

pub difference-nil : {K : Type 0} (p : ℕ) (v : Combination K) → SameWeights p (difference p v []) v
unfolding weigh
difference-nil p v = record {
  at = λ h.
      let e : weigh h (difference p v []) ≡ weigh h v + (p - 1) * 0 = weigh-difference h p v [] in
      let e' : weigh h (difference p v []) ≡ weigh h v = omega arith in
      ap (λ n. n % p) e';
}

-- differences, modulo a number above 0

pub differences-append : {K : Type 0} (p : ℕ) (u v w : Combination K) → 0 < p → SameWeights p (difference p u v ++ difference p v w) (difference p u w)
differences-append p u v w positive = record {
  at = λ h.
      let parts : weigh h (difference p u v ++ difference p v w) ≡ (weigh h u + (p - 1) * weigh h v) + (weigh h v + (p - 1) * weigh h w) =
      weigh-append h (difference p u v) (difference p v w) ∙ ap₂ (λ m n. m + n) (weigh-difference h p u v) (weigh-difference h p v w) in
      ap (λ n. n % p) (parts ∙ whole (weigh h u) (weigh h v) (weigh h w))
      ∙ (add-mul-mod_self_left (weigh h u + (p - 1) * weigh h w) p (weigh h v) ∙ ap (λ n. n % p) (sym (weigh-difference h p u w)));
}
  where
    whole : (a b c : ℕ) → (a + (p - 1) * b) + (b + (p - 1) * c) ≡ (a + (p - 1) * c) + p * b
    whole a b c =
        let below : suc (p - 1) ≡ p = omega arith in
        let product : (a + (p - 1) * b) + (b + (p - 1) * c) ≡ (a + (p - 1) * c) + suc (p - 1) * b = omega arith in
        product ∙ ap (λ q. (a + (p - 1) * c) + q * b) below

pub difference_vanishes : {K : Type 0} (p : ℕ) (u v : Combination K) → 0 < p → SameWeights p u v → SameWeights p (difference p u v) []
unfolding weigh
difference_vanishes p u v positive e = record {
  at = λ h. ap (λ n. n % p) (weigh-difference h p u v)
      ∙ (congruent-add p (weigh h u) (weigh h v) ((p - 1) * weigh h v) ((p - 1) * weigh h v) (e.at h) refl
      ∙ (ap (λ n. n % p) (whole (weigh h v)) ∙ (mul-mod_right p (weigh h v) ∙ sym (zero-mod p))));
}
  where
    whole : (n : ℕ) → n + (p - 1) * n ≡ p * n
    whole n =
        let below : suc (p - 1) ≡ p = omega arith in
        let product : n + (p - 1) * n ≡ suc (p - 1) * n = omega arith in
        product ∙ ap (λ q. q * n) below

pub same_from_difference : {K : Type 0} (p : ℕ) (u v : Combination K) → 0 < p → SameWeights p (difference p u v) [] → SameWeights p u v
same_from_difference p u v positive e =
    SameWeights-trans (SameWeights-sym (back p u v positive)) (SameWeights-append e (SameWeights-refl p v))
  where
    back : {K : Type 0} (p : ℕ) (u v : Combination K) → 0 < p → SameWeights p (difference p u v ++ v) u
    back p u v positive = record {
      at = λ h. ap (λ n. n % p) (weigh-append h (difference p u v) v ∙ (ap (λ n. n + weigh h v) (weigh-difference h p u v) ∙ whole (weigh h u) (weigh h v)))
          ∙ add-mul-mod_self_left (weigh h u) p (weigh h v);
    }
      where
        whole : (m n : ℕ) → (m + (p - 1) * n) + n ≡ m + p * n
        whole m n =
            let below : suc (p - 1) ≡ p = omega arith in
            let product : (m + (p - 1) * n) + n ≡ m + suc (p - 1) * n = omega arith in
            product ∙ ap (λ q. m + q * n) below

-- alike sums, where `same` tells equal keys

pub Alike-refl : {K : Type 0} (same : K → K → Bool) (p : ℕ) (u : Combination K) → Alike same p u u
Alike-refl same p u = λ k. refl

pub Alike-sym : {K : Type 0} (same : K → K → Bool) (p : ℕ) (u v : Combination K) → Alike same p u v → Alike same p v u
Alike-sym same p u v e = λ k. sym (e k)

pub Alike-trans : {K : Type 0} (same : K → K → Bool) (p : ℕ) (u v w : Combination K) → Alike same p u v → Alike same p v w → Alike same p u w
Alike-trans same p u v w e f = λ k. e k ∙ f k

module _ {K : Type 0} (same : K → K → Bool) (decides : (j k : K) → Decides (same j k) (j ≡ k)) where
  pub Alike-append : (p : ℕ) (u v r s : Combination K) → Alike same p u v → Alike same p r s → Alike same p (u ++ r) (v ++ s)
  Alike-append p u v r s e f =
      Alike_from_weights same (SameWeights-append (weights_from_Alike same decides p u v e) (weights_from_Alike same decides p r s f))

  pub Alike-scaled : (p c : ℕ) (u v : Combination K) → Alike same p u v → Alike same p (scaled c u) (scaled c v)
  Alike-scaled p c u v e = Alike_from_weights same (SameWeights-scaled c (weights_from_Alike same decides p u v e))

  pub Alike-difference : (p : ℕ) (u v r s : Combination K) → Alike same p u v → Alike same p r s → Alike same p (difference p u r) (difference p v s)
  Alike-difference p u v r s e f =
      Alike_from_weights same (SameWeights-difference (weights_from_Alike same decides p u v e) (weights_from_Alike same decides p r s f))

  pub Alike-extended : {L : Type 0} (same_target : L → L → Bool) (p : ℕ) (f : K → Combination L) (u v : Combination K) → Alike same p u v → Alike same_target p (extended f u) (extended f v)
  Alike-extended same_target p f u v e = Alike_from_weights same_target (SameWeights-extended f (weights_from_Alike same decides p u v e))

-- keys

pub Decides-nat_eq : (j k : ℕ) → Decides (nat_eq j k) (j ≡ k)
Decides-nat_eq j k = Decides-eqb j k

pub Decides-same_letters : (u v : List ℕ) → Decides (same_letters u v) (u ≡ v)
unfolding same_letters
Decides-same_letters [] [] = (λ e. refl, λ e. refl)
Decides-same_letters [] (y ∷ v) = (λ e. cc, λ e. cc)
Decides-same_letters (x ∷ u) [] = (λ e. cc, λ e. cc)
Decides-same_letters (x ∷ u) (y ∷ v) = both (Decides-same_letters u v)
  where
    both : Decides (same_letters u v) (u ≡ v) → Decides (nat_eq x y && same_letters u v) ((x ∷ u) ≡ (y ∷ v))
    both rest = (forward, backward)
      where
        forward : (nat_eq x y && same_letters u v) ≡ true → (x ∷ u) ≡ (y ∷ v)
        forward e =
            let parts = and_parts (nat_eq x y) (same_letters u v) e in
            ap₂ ◌∷◌ ((Decides-nat_eq x y).0 parts.0) (rest.0 parts.1)

        backward : (x ∷ u) ≡ (y ∷ v) → (nat_eq x y && same_letters u v) ≡ true
        backward e =
            let heads : x ≡ y = cc in
            let tails : u ≡ v = cc in
            and_from (nat_eq x y) (same_letters u v) ((Decides-nat_eq x y).1 heads) (rest.1 tails)

pub Decides-same_word : (v w : Word) → Decides (same_word v w) (v ≡ w)
unfolding same_word
Decides-same_word v w = (forward, backward)
  where
    forward : (nat_eq (start v) (start w) && same_letters (letters v) (letters w)) ≡ true → v ≡ w
    forward e =
        let parts = and_parts (nat_eq (start v) (start w)) (same_letters (letters v) (letters w)) e in
        sym (spelled_back v)
        ∙ (ap₂ (λ i u. times_all (generator i) u) ((Decides-nat_eq (start v) (start w)).0 parts.0) ((Decides-same_letters (letters v) (letters w)).0 parts.1)
        ∙ spelled_back w)

    backward : v ≡ w → (nat_eq (start v) (start w) && same_letters (letters v) (letters w)) ≡ true
    backward e =
        and_from (nat_eq (start v) (start w)) (same_letters (letters v) (letters w))
        ((Decides-nat_eq (start v) (start w)).1 (ap start e)) ((Decides-same_letters (letters v) (letters w)).1 (ap letters e))

-- the primes are above 1

pub prime-large : (p : ℕ) → IsFieldPrime p → 1 < p
unfolding primes
prime-large p h = ltb-true 1 p (All-contains (λ q. ltb 1 q ≡ true) primes p (AllPass-from_list_all (λ q. ltb 1 q) primes refl) h)
