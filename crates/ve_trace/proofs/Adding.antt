-- Sums of vectors, as they are added up.
use Rattle.std.proofs.Common.{◌≡◌, ℕ, ◌+◌, ◌*◌, ◌%◌, ◌<◌, nat_eq, List, [], ◌∷◌, ◌++◌, length, take, Some, get_or, slice_get, refl, sym, ap, subst, ◌∙◌, arith}
use Rattle.std.proofs.Math.Nat.{mod-mod}
use Rattle.std.proofs.lemmas.List.{take_more, append-nil}
use Rattle.std.proofs.lemmas.Option.{get_or_from_slice_get, slice_get-get_or, slice_get-map, slice_get_within}
use Rattle.std.specs.Prelude.{option_map}
use Rattle.ve_theory.specs.Combinations.{Combination, scaled, IsReduced, IsReducedOf}
use Rattle.ve_vec.specs.declared.term.Term.{Term}
use Rattle.ve_vec.specs.Terms.{pair_of, pairs}
use Rattle.ve_theory.proofs.DerivedElements.{SameWeights-equal}
use Rattle.ve_theory.proofs.Sums.{weigh, congruent-mul, weigh-append, weigh-scaled, SameWeights, SameWeights-refl, SameWeights-sym, SameWeights-trans, SameWeights-append, SameWeights-scaled, scaled-one, Alike_from_weights, weights_from_Alike, Decides-nat_eq}

pub weights_of : {p : ℕ} {v e : Combination ℕ} → IsReducedOf ◌<◌ nat_eq p v e → SameWeights p v e
weights_of {p} {v} {e} h = weights_from_Alike nat_eq Decides-nat_eq p v e h.alike

pub reduced_by : {p : ℕ} {v e : Combination ℕ} → IsReduced ◌<◌ p v → SameWeights p v e → IsReducedOf ◌<◌ nat_eq p v e
reduced_by reduced same = record { reduced = reduced; alike = Alike_from_weights nat_eq same }

pub itself : {p : ℕ} {v : Combination ℕ} → IsReduced ◌<◌ p v → IsReducedOf ◌<◌ nat_eq p v v
itself {p} {v} reduced = reduced_by reduced (SameWeights-refl p v)

-- the vector of a sum is one of each sum that is alike to it
pub onto : {p : ℕ} {v e f : Combination ℕ} → IsReducedOf ◌<◌ nat_eq p v e → SameWeights p e f → IsReducedOf ◌<◌ nat_eq p v f
onto h same = reduced_by h.reduced (SameWeights-trans (weights_of h) same)

-- a multiple is added
pub added : {p : ℕ} (c : ℕ) {s v e f r : Combination ℕ} → IsReducedOf ◌<◌ nat_eq p s e → IsReducedOf ◌<◌ nat_eq p v f
    → IsReducedOf ◌<◌ nat_eq p r (s ++ scaled c v) → IsReducedOf ◌<◌ nat_eq p r (e ++ scaled c f)
added c sum vector result = onto result (SameWeights-append (weights_of sum) (SameWeights-scaled c (weights_of vector)))

pub added_once : {p : ℕ} {s v e f r : Combination ℕ} → IsReducedOf ◌<◌ nat_eq p s e → IsReducedOf ◌<◌ nat_eq p v f
    → IsReducedOf ◌<◌ nat_eq p r (s ++ scaled 1 v) → IsReducedOf ◌<◌ nat_eq p r (e ++ f)
added_once {p} {s} {v} {e} {f} {r} sum vector result =
    onto (added 1 sum vector result) (SameWeights-append (SameWeights-refl p e) (scaled-one p f))

-- a multiple of a multiple
pub scaled_twice : (p by c e : ℕ) (v : Combination ℕ) → e ≡ (c * by) % p → SameWeights p (scaled e v) (scaled by (scaled c v))
scaled_twice p by c e v e_is = record {
  at = λ h.
      ap (λ n. n % p) (weigh-scaled h e v)
      ∙ congruent-mul p e (c * by) (weigh h v) (weigh h v) (ap (λ n. n % p) e_is ∙ mod-mod (c * by) p) refl
      ∙ ap (λ n. n % p) (omega (arith, weigh-scaled h by (scaled c v), ap (λ n. by * n) (weigh-scaled h c v)));
}

-- once the vector is itself
pub once : {p : ℕ} {v : Combination ℕ} → IsReduced ◌<◌ p v → IsReducedOf ◌<◌ nat_eq p v (scaled 1 v)
once {p} {v} reduced = reduced_by reduced (SameWeights-sym (scaled-one p v))

-- the terms of a vector are added one after another

pub nothing_added : {p : ℕ} (c : ℕ) {s : Combination ℕ} (v : Combination ℕ) → IsReduced ◌<◌ p s → IsReducedOf ◌<◌ nat_eq p s (s ++ scaled c (take 0 v))
unfolding scaled
nothing_added {p} c {s} v reduced = subst (IsReducedOf ◌<◌ nat_eq p s) (sym (append-nil s)) (itself reduced)

pub term_added : {p : ℕ} (c : ℕ) (s : Combination ℕ) {u r : Combination ℕ} (v : Combination ℕ) (at : ℕ) (t : ℕ × ℕ) → slice_get v at ≡ Some t
    → IsReducedOf ◌<◌ nat_eq p u (s ++ scaled c (take at v)) → IsReducedOf ◌<◌ nat_eq p r (u ++ scaled c (t ∷ []))
    → IsReducedOf ◌<◌ nat_eq p r (s ++ scaled c (take (at + 1) v))
term_added {p} c s {u} {r} v at t is sum result =
    let more : take (at + 1) v ≡ take at v ++ t ∷ [] =
    take_more v at t (slice_get_within v at t is) ∙ ap (λ w. take at v ++ w ∷ []) (get_or_from_slice_get v at t t is) in
    let both : SameWeights p ((s ++ scaled c (take at v)) ++ scaled c (t ∷ [])) (s ++ scaled c (take at v ++ t ∷ [])) =
    SameWeights-equal (λ h. omega (
      arith,
      weigh-append h (s ++ scaled c (take at v)) (scaled c (t ∷ [])),
      weigh-append h s (scaled c (take at v)),
      weigh-append h s (scaled c (take at v ++ t ∷ [])),
      weigh-scaled h c (take at v),
      weigh-scaled h c (t ∷ []),
      weigh-scaled h c (take at v ++ t ∷ []),
      ap (λ n. c * n) (weigh-append h (take at v) (t ∷ [])),
    )) in
    subst (λ w. IsReducedOf ◌<◌ nat_eq p r (s ++ scaled c w)) (sym more)
    (onto result (SameWeights-trans (SameWeights-append (weights_of sum) (SameWeights-refl p (scaled c (t ∷ [])))) both))

-- a term of the program, and the vector's term at its place
pub listed : (items : List Term) (v : Combination ℕ) (at : ℕ) (d : Term) → pairs items ≡ v → at < length items → slice_get v at ≡ Some ((get_or items at d).id, (get_or items at d).coef)
listed items v at d view within =
    ap (λ w. slice_get w at) (sym view) ∙ (slice_get-map pair_of items at ∙ ap (option_map pair_of) (slice_get-get_or items at d within))
