-- Rows whose ids are in a span, and their sums.
use Rattle.std.proofs.Common.{◌≡◌, ℕ, suc, ◌+◌, ◌-◌, ◌<◌, ◌≤◌, nat_eq, All, [], ◌∷◌, ◌++◌, length, Option, Some, slice_get, inl, inr, sym, ap, ◌∙◌, subst, arith}
use Rattle.std.proofs.lemmas.Bool.{cases_lt}
use Rattle.std.proofs.lemmas.List.Elements.{All-nil, All-cons}
use Rattle.ve_theory.specs.Combinations.{Combination, extended, scaled, Alike, AllBefore, IsReduced}
use Rattle.ve_theory.proofs.Sums.{Alike-refl, Alike-append, Decides-nat_eq}
use Rattle.ve_vec.specs.Spans.{AllBetween}
use Rattle.ve_vec.specs.Tracing.{PartialTable, vector_times}
use Rattle.ve_trace.specs.Parts.{AreRowsBetween, part}
use Rattle.ve_trace.proofs.Rows.{part-none, part-more, one_more}

-- ids between the last one and the first one

at_most : (i : ℕ) (v : Combination ℕ) → AllBefore ◌≤◌ i v → All (λ t. t.0 ≤ i) v
unfolding AllBefore
at_most i [] below = All-nil (λ (t : ℕ × ℕ). t.0 ≤ i)
at_most i (t ∷ v) below = All-cons (λ (t : ℕ × ℕ). t.0 ≤ i) t v below.0 (at_most i v below.1)

at_least : (p i c : ℕ) (v : Combination ℕ) → IsReduced ◌<◌ p v → slice_get v (length v - 1) ≡ Some (i, c) → All (λ t. i ≤ t.0) v
unfolding IsReduced AllBefore
at_least p i c [] reduced last = All-nil (λ (t : ℕ × ℕ). i ≤ t.0)
at_least p i c (t ∷ []) reduced last =
    let same : t ≡ (i, c) = cc in
    All-cons (λ (t : ℕ × ℕ). i ≤ t.0) t [] (omega (arith, ap (λ s. s.0) same)) (All-nil (λ (t : ℕ × ℕ). i ≤ t.0))
at_least p i c (t ∷ s ∷ v) reduced last =
    let place : length (t ∷ s ∷ v) - 1 ≡ suc (length (s ∷ v) - 1) = omega arith in
    let rest : All (λ t. i ≤ t.0) (s ∷ v) = at_least p i c (s ∷ v) reduced.3 (ap (slice_get (t ∷ s ∷ v)) (sym place) ∙ last) in
    All-cons (λ (t : ℕ × ℕ). i ≤ t.0) t (s ∷ v) (omega (arith, rest 0 s (omega arith), reduced.2.0)) rest

pub between_ends : (p low high i j c n : ℕ) (v : Combination ℕ) → IsReduced ◌<◌ p v → n ≡ length v → slice_get v (n - 1) ≡ Some (i, c) → AllBefore ◌≤◌ j v → low ≤ i → j ≤ high → AllBetween low high v
between_ends p low high i j c n v reduced n_is last first le ge =
    let least = at_least p i c v reduced (subst (λ m. slice_get v (m - 1) ≡ Some (i, c)) n_is last) in
    let most = at_most j v first in
    λ at d within. (omega (arith, least at d within), omega (arith, most at d within))

pub between_none : (low high : ℕ) (v : Combination ℕ) → v ≡ [] → AllBetween low high v
between_none low high v none = subst (AllBetween low high) (sym none) (All-nil (λ (t : ℕ × ℕ). (low ≤ t.0) × (t.0 ≤ high)))

-- rows between

pub no_rows_between : (rows : PartialTable) (v : Combination ℕ) (x at low high : ℕ) → AreRowsBetween rows v x at at low high
no_rows_between rows v x at low high = λ i b c row above below is known. absurd (omega arith)

pub one_more_between : (rows : PartialTable) (v row : Combination ℕ) (x from at b c low high wider_low wider_high : ℕ) → slice_get v at ≡ Some (b, c) → rows b x ≡ Some row
    → wider_low ≤ low → high ≤ wider_high → AllBetween wider_low wider_high row
    → AreRowsBetween rows v x from at low high → AreRowsBetween rows v x from (at + 1) wider_low wider_high
one_more_between rows v row x from at b c low high wider_low wider_high is known le ge between rows_between = λ i b' c' row' above below is' known'.
    elim (cases_lt i at) [
      | inl less ↦ λ k d within. let inside = rows_between i b' c' row' above less is' known' k d within in (omega (arith, inside.0), omega (arith, inside.1))
      | inr past ↦
          let here : i ≡ at = omega arith in
          let same : ◌≡◌ {A = Option (ℕ × ℕ)} (Some (b', c')) (Some (b, c)) = sym is' ∙ ap (slice_get v) here ∙ is in
          let same_term : ◌≡◌ {A = ℕ × ℕ} (b', c') (b, c) = cc in
          let id : b ≡ b' = sym (ap (λ (t : ℕ × ℕ). t.0) same_term) in
          let same_row : ◌≡◌ {A = Option (Combination ℕ)} (Some row) (Some row') = sym known ∙ ap (λ j. rows j x) id ∙ known' in
          let row_same : row ≡ row' = cc in
          subst (AllBetween wider_low wider_high) row_same between
    ]

-- sums over a span

pub dense_none : (p : ℕ) (rows : PartialTable) (v s : Combination ℕ) (x at : ℕ) → Alike nat_eq p s [] → Alike nat_eq p s (vector_times rows (part at at v) x)
unfolding extended
dense_none p rows v s x at none =
    let P : Combination ℕ → Type 0 = λ w. Alike nat_eq p s (vector_times rows w x) in
    subst P (sym (part-none at v)) none

pub dense_more : (p : ℕ) (rows : PartialTable) (v s row r : Combination ℕ) (x from at b c : ℕ) → from ≤ at → slice_get v at ≡ Some (b, c) → rows b x ≡ Some row
    → Alike nat_eq p s (vector_times rows (part from at v) x) → Alike nat_eq p r (s ++ scaled c row) → Alike nat_eq p r (vector_times rows (part from (at + 1) v) x)
dense_more p rows v s row r x from at b c le is known sum result =
    let e = vector_times rows (part from at v) x in
    let next : vector_times rows (part from (at + 1) v) x ≡ e ++ scaled c row =
    ap (λ w. vector_times rows w x) (part-more from at v (b, c) le is) ∙ one_more rows (part from at v) row x b c known in
    let both : Alike nat_eq p (s ++ scaled c row) (e ++ scaled c row) = Alike-append nat_eq Decides-nat_eq p s e (scaled c row) (scaled c row) sum (Alike-refl nat_eq p (scaled c row)) in
    let P : Combination ℕ → Type 0 = λ w. Alike nat_eq p r w in
    subst P (sym next) (λ k. result k ∙ both k)
