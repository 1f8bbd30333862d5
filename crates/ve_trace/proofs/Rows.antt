-- The rows that a vector's ids have at a letter, and their sums.
use Rattle.std.proofs.Common.{◌≡◌, ◌≢◌, ℕ, ◌+◌, ◌-◌, ◌*◌, ◌%◌, ◌<◌, ◌≤◌, nat_eq, [], ◌∷◌, ◌++◌, length, take, drop, get_or, Option, Some, None, slice_get, slice_index_or, unwrap_or, sym, ap, ◌∙◌, subst, length-drop, arith}
use Rattle.std.proofs.Math.Seq.{take-add, take-length}
use Rattle.std.proofs.lemmas.List.{take_more, get_or-drop, drop-drop, append-nil}
use Rattle.std.proofs.lemmas.Option.{get_or_from_slice_get, slice_get-get_or, slice_get_within}
use Rattle.ve_theory.specs.Combinations.{Combination, scaled, extended, IsReduced, IsReducedOf}
use Rattle.ve_theory.proofs.Sums.{extended-append, SameWeights-refl, SameWeights-trans, SameWeights-append, SameWeights_of}
use Rattle.ve_vec.specs.Tracing.{PartialTable, row_or_zero, vector_times, AreReduced, HasProducts}
use Rattle.ve_trace.specs.Parts.{HasRows, part}
use Rattle.ve_trace.proofs.Vectors.{term_at, term_counts}
use Rattle.ve_trace.proofs.Adding.{added, added_once, itself, onto, scaled_twice}

-- parts of vectors

pub part-none : (at : ℕ) (v : Combination ℕ) → part at at v ≡ []
part-none at v = let e : at - at ≡ 0 = omega arith in ap (λ n. take n (drop at v)) e

pub part-more : (from at : ℕ) (v : Combination ℕ) (t : ℕ × ℕ) → from ≤ at → slice_get v at ≡ Some t → part from (at + 1) v ≡ part from at v ++ t ∷ []
part-more from at v t le e =
    let within : at < length v = slice_get_within v at t e in
    let count : (at + 1) - from ≡ (at - from) + 1 = omega arith in
    let place : from + (at - from) ≡ at = omega arith in
    ap (λ n. take n (drop from v)) count
    ∙ (take_more (drop from v) (at - from) t (omega (arith, length-drop from v))
    ∙ ap (λ s. take (at - from) (drop from v) ++ s ∷ []) (get_or-drop from v (at - from) t ∙ (ap (λ n. get_or v n t) place ∙ get_or_from_slice_get v at t t e)))

part-join : (from middle to : ℕ) (v : Combination ℕ) → from ≤ middle → middle ≤ to → part from to v ≡ part from middle v ++ part middle to v
part-join from middle to v first second =
    let count : to - from ≡ (middle - from) + (to - middle) = omega arith in
    let place : from + (middle - from) ≡ middle = omega arith in
    ap (λ n. take n (drop from v)) count
    ∙ (take-add (middle - from) (to - middle) (drop from v)
    ∙ ap (λ w. take (middle - from) (drop from v) ++ take (to - middle) w) (drop-drop (middle - from) from v ∙ ap (λ n. drop n v) place))

-- ids of the vector have rows, and residues as coefficients
pub has_rows : (p : ℕ) (rows : PartialTable) (v : Combination ℕ) (x : ℕ) → IsReduced ◌<◌ p v → HasProducts p rows v x → HasRows rows v x
has_rows p rows v x reduced found = λ at d within none.
    let t : ℕ × ℕ = slice_index_or v at d in
    term_counts p v t.0 t.1 (term_at p v at t reduced (slice_get-get_or v at d within)) (found t.0 none)

pub has_row : (rows : PartialTable) (v : Combination ℕ) (x at b c : ℕ) → HasRows rows v x → slice_get v at ≡ Some (b, c) → rows b x ≢ None
has_row rows v x at b c found is =
    let P : ℕ × ℕ → Type 0 = λ t. rows t.0 x ≢ None in
    subst P (get_or_from_slice_get v at (b, c) (b, c) is) (found at (b, c) (slice_get_within v at (b, c) is))

pub is_residue : (p : ℕ) (v : Combination ℕ) (at b c : ℕ) → IsReduced ◌<◌ p v → slice_get v at ≡ Some (b, c) → c < p
is_residue p v at b c reduced is = (term_at p v at (b, c) reduced is).residue

-- where there is a vector other than zero, 1 is a residue
pub one_is_residue : (p : ℕ) (v : Combination ℕ) → IsReduced ◌<◌ p v → 0 < length v → 1 < p
unfolding IsReduced
one_is_residue p [] reduced some = absurd (omega arith)
one_is_residue p (t ∷ v) reduced some = omega (arith, reduced.0, reduced.1)

-- sums of rows

pub sum_none : (p : ℕ) (rows : PartialTable) (v s : Combination ℕ) (x at : ℕ) → s ≡ [] → IsReduced ◌<◌ p s → IsReducedOf ◌<◌ nat_eq p s (vector_times rows (part at at v) x)
unfolding extended
sum_none p rows v s x at none reduced =
    let P : Combination ℕ → Type 0 = λ w. IsReducedOf ◌<◌ nat_eq p s (vector_times rows w x) in
    let Q : Combination ℕ → Type 0 = λ w. IsReducedOf ◌<◌ nat_eq p s w in
    subst P (sym (part-none at v)) (subst Q none (itself reduced))

pub one_more : (rows : PartialTable) (v row : Combination ℕ) (x b c : ℕ) → rows b x ≡ Some row → vector_times rows (v ++ (b, c) ∷ []) x ≡ vector_times rows v x ++ scaled c row
unfolding extended
one_more rows v row x b c known =
    extended-append (row_or_zero rows x) v ((b, c) ∷ [])
    ∙ ap (λ w. vector_times rows v x ++ w) (append-nil (scaled c (row_or_zero rows x b)) ∙ ap (λ (r : Option (Combination ℕ)). scaled c (unwrap_or r [])) known)

pub sum_more : (p : ℕ) (rows : PartialTable) (v s row r : Combination ℕ) (x from at b c : ℕ) → from ≤ at → slice_get v at ≡ Some (b, c) → rows b x ≡ Some row → AreReduced p rows
    → IsReducedOf ◌<◌ nat_eq p s (vector_times rows (part from at v) x) → IsReducedOf ◌<◌ nat_eq p r (s ++ scaled c row)
    → IsReducedOf ◌<◌ nat_eq p r (vector_times rows (part from (at + 1) v) x)
sum_more p rows v s row r x from at b c le is known reduced sum result =
    let next : vector_times rows (part from (at + 1) v) x ≡ vector_times rows (part from at v) x ++ scaled c row =
    ap (λ w. vector_times rows w x) (part-more from at v (b, c) le is) ∙ one_more rows (part from at v) row x b c known in
    let P : Combination ℕ → Type 0 = λ w. IsReducedOf ◌<◌ nat_eq p r w in
    subst P (sym next) (added c sum (itself (reduced b x row known)) result)

pub sum_joined : (p : ℕ) (rows : PartialTable) (v s u r : Combination ℕ) (x from middle to : ℕ) → from ≤ middle → middle ≤ to
    → IsReducedOf ◌<◌ nat_eq p s (vector_times rows (part from middle v) x) → IsReducedOf ◌<◌ nat_eq p u (vector_times rows (part middle to v) x)
    → IsReducedOf ◌<◌ nat_eq p r (s ++ scaled 1 u) → IsReducedOf ◌<◌ nat_eq p r (vector_times rows (part from to v) x)
sum_joined p rows v s u r x from middle to first second high low result =
    let both : vector_times rows (part from to v) x ≡ vector_times rows (part from middle v) x ++ vector_times rows (part middle to v) x =
    ap (λ w. vector_times rows w x) (part-join from middle to v first second) ∙ extended-append (row_or_zero rows x) (part from middle v) (part middle to v) in
    let P : Combination ℕ → Type 0 = λ w. IsReducedOf ◌<◌ nat_eq p r w in
    subst P (sym both) (added_once high low result)

pub sum_whole : (p : ℕ) (rows : PartialTable) (v r : Combination ℕ) (x n : ℕ) → n ≡ length v
    → IsReducedOf ◌<◌ nat_eq p r (vector_times rows (part 0 n v) x) → IsReducedOf ◌<◌ nat_eq p r (vector_times rows v x)
sum_whole p rows v r x n all sum =
    let P : Combination ℕ → Type 0 = λ w. IsReducedOf ◌<◌ nat_eq p r (vector_times rows w x) in
    let count : n - 0 ≡ length v = omega arith in
    subst P (ap (λ m. take m v) count ∙ take-length v) sum

-- a vector of one term
pub one_product : (rows : PartialTable) (v row : Combination ℕ) (x b c : ℕ) → length v ≡ 1 → slice_get v 0 ≡ Some (b, c) → rows b x ≡ Some row → vector_times rows v x ≡ scaled c row
unfolding extended
one_product rows [] row x b c one is known = absurd cc
one_product rows (t ∷ s ∷ v) row x b c one is known = absurd (omega arith)
one_product rows (t ∷ []) row x b c one is known =
    let first : t ≡ (b, c) = cc in
    ap (λ s. vector_times rows (s ∷ []) x) first ∙ one_more rows [] row x b c known

pub sum_one : (p : ℕ) (rows : PartialTable) (v row r : Combination ℕ) (x b c : ℕ) → length v ≡ 1 → slice_get v 0 ≡ Some (b, c) → rows b x ≡ Some row
    → IsReducedOf ◌<◌ nat_eq p r (scaled c row) → IsReducedOf ◌<◌ nat_eq p r (vector_times rows v x)
sum_one p rows v row r x b c one is known result = subst (IsReducedOf ◌<◌ nat_eq p r) (sym (one_product rows v row x b c one is known)) result

-- a multiple of it is added as a multiple of its row
pub one_added : (p by e : ℕ) (rows : PartialTable) (s v row r : Combination ℕ) (x b c : ℕ) → length v ≡ 1 → slice_get v 0 ≡ Some (b, c) → rows b x ≡ Some row
    → e ≡ (c * by) % p → IsReducedOf ◌<◌ nat_eq p r (s ++ scaled e row) → IsReducedOf ◌<◌ nat_eq p r (s ++ scaled by (vector_times rows v x))
one_added p by e rows s v row r x b c one is known e_is result =
    onto result
    (SameWeights-append (SameWeights-refl p s)
    (SameWeights-trans (scaled_twice p by c e row e_is) (SameWeights_of (ap (scaled by) (sym (one_product rows v row x b c one is known))))))
