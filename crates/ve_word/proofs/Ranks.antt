-- Comparisons of letters and of words.
use Rattle.std.proofs.Common.{◌≡◌, ℕ, ◌<◌, ◌⊎◌, ◌↔◌, List, [], ◌∷◌, ◌++◌, length, min, take, zero, suc, inl, inr, refl, sym, ◌∙◌, ap, subst, length-append, arith}
use Rattle.std.proofs.lemmas.List.{append-nil, nil_from_length}
use Rattle.std.specs.declared.cmp.Ordering.{Ordering}
use Rattle.std.specs.declared.cmp.Ordering.TheVariants.{Less, Equal, Greater}
use Rattle.std.specs.Ordering.{MatchOrdering, nat_cmp, ordering_then}
use Rattle.std.specs.Cmp.{ranks}
use Rattle.std.specs.Cmp.Lexicographic.{slice_cmp}
use Rattle.ve_theory.specs.Words.{Word, start, letters, DiffersBelow, IsSmaller}
use Rattle.ve_lemmas.proofs.Words.{same_words}
use Rattle.ve_lemmas.proofs.Orders.{smaller_irreflexive}

-- what a comparison answers: less exactly where P holds, greater exactly where Q holds
pub record IsRanked (r : Ordering) (P Q : Type 0) : Type 0 where
  pub less : (r ≡ Less) ↔ P
  pub greater : (r ≡ Greater) ↔ Q

-- cases of which the first and the last exclude the others
ranked_by : (r : Ordering) (P E Q : Type 0) → MatchOrdering r P E Q → (P → Q → ⊥) → (E → P → ⊥) → (E → Q → ⊥) → IsRanked r P Q
ranked_by Less P E Q p both below above = record { less = (λ _. p, λ _. refl); greater = (λ e. absurd cc, λ q. absurd (both p q)) }
ranked_by Equal P E Q i both below above =
    record { less = (λ e. absurd cc, λ p. absurd (below i p)); greater = (λ e. absurd cc, λ q. absurd (above i q)) }
ranked_by Greater P E Q q both below above = record { less = (λ e. absurd cc, λ p. absurd (both p q)); greater = (λ _. q, λ _. refl) }

-- what decides between equal numbers
pub tie-ranked :
    {r : Ordering} {P Q : Type 0} (x y : ℕ) →
    x ≡ y → IsRanked r P Q → IsRanked r ((x < y) ⊎ ((x ≡ y) × P)) ((y < x) ⊎ ((y ≡ x) × Q))
tie-ranked x y same later =
    record {
      less = (λ e. inr (same, later.less.0 e), λ h. elim h [ inl a ↦ absurd (omega arith) | inr a ↦ later.less.1 a.1 ]);
      greater = (λ e. inr (sym same, later.greater.0 e), λ h. elim h [ inl a ↦ absurd (omega arith) | inr a ↦ later.greater.1 a.1 ]);
    }

DiffersBelow-asymmetric : (u v : List ℕ) → DiffersBelow u v → DiffersBelow v u → ⊥
unfolding DiffersBelow
DiffersBelow-asymmetric [] v below above = below
DiffersBelow-asymmetric (x ∷ u) [] below above = below
DiffersBelow-asymmetric (x ∷ u) (y ∷ v) below above =
    elim below [
      | inl a ↦ elim above [ inl b ↦ omega arith | inr b ↦ omega arith ]
      | inr a ↦ elim above [ inl b ↦ omega arith | inr b ↦ DiffersBelow-asymmetric u v a.1 b.1 ]
    ]

-- as far as both lists go, their comparison finds the first place where they differ
fronts-cases :
    (u v : List ℕ) (k : ℕ) →
    k ≡ min (length u) (length v) →
    MatchOrdering (slice_cmp nat_cmp (take k u) (take k v)) (DiffersBelow u v) (take k u ≡ take k v) (DiffersBelow v u)
unfolding DiffersBelow
fronts-cases u v zero e = refl
fronts-cases [] v (suc k) e = absurd (omega arith)
fronts-cases (x ∷ u) [] (suc k) e = absurd (omega arith)
fronts-cases (x ∷ u) (y ∷ v) (suc k) e =
    by (nat_cmp x y) (ranks x y) (slice_cmp nat_cmp (take k u) (take k v)) (fronts-cases u v k (omega arith))
  where
    by :
        (o : Ordering) →
        MatchOrdering o (x < y) (x ≡ y) (y < x) →
        (r : Ordering) →
        MatchOrdering r (DiffersBelow u v) (take k u ≡ take k v) (DiffersBelow v u) →
        MatchOrdering
        (ordering_then o r)
        ((x < y) ⊎ ((x ≡ y) × DiffersBelow u v))
        (x ∷ take k u ≡ y ∷ take k v)
        ((y < x) ⊎ ((y ≡ x) × DiffersBelow v u))
    by Less below r h = inl below
    by Greater above r h = inl above
    by Equal same Less h = inr (same, h)
    by Equal same Equal h = cc
    by Equal same Greater h = inr (omega arith, h)

-- where the lists agree as far as both go, neither differs below the other
fronts-agree : (u v : List ℕ) (k : ℕ) → k ≡ min (length u) (length v) → take k u ≡ take k v → DiffersBelow u v → ⊥
unfolding DiffersBelow
fronts-agree [] v k e same below = below
fronts-agree (x ∷ u) [] k e same below = below
fronts-agree (x ∷ u) (y ∷ v) zero e same below = omega arith
fronts-agree (x ∷ u) (y ∷ v) (suc k) e same below =
    let heads : x ≡ y = cc in
    let tails : take k u ≡ take k v = cc in
    elim below [ inl a ↦ omega arith | inr a ↦ fronts-agree u v k (omega arith) tails a.1 ]

pub fronts-ranked :
    {r : Ordering} {s t : List ℕ} (u v : List ℕ) (k : ℕ) →
    k ≡ min (length u) (length v) →
    s ≡ u →
    t ≡ v →
    r ≡ slice_cmp nat_cmp (take k s) (take k t) →
    IsRanked r (DiffersBelow u v) (DiffersBelow v u)
fronts-ranked u v k shared first second compared =
    rw (compared, first, second)
    (ranked_by
    _
    _
    _
    _
    (fronts-cases u v k shared)
    (DiffersBelow-asymmetric u v)
    (fronts-agree u v k shared)
    (λ same. fronts-agree v u k (omega arith) (sym same)))

-- where neither list differs below the other, one of them begins with the other
letters-alike :
    (u v : List ℕ) →
    (DiffersBelow u v → ⊥) →
    (DiffersBelow v u → ⊥) →
    (t : List ℕ) × ((u ≡ v ++ t) ⊎ (v ≡ u ++ t))
unfolding DiffersBelow
letters-alike [] v below above = (v, inr refl)
letters-alike (x ∷ u) [] below above = (x ∷ u, inl refl)
letters-alike (x ∷ u) (y ∷ v) below above =
    let same : x ≡ y = omega (arith, λ (h : x < y). below (inl h), λ (h : y < x). above (inl h)) in
    let rest = letters-alike u v (λ h. below (inr (same, h))) (λ h. above (inr (sym same, h))) in
    (rest.0, elim rest.1 [ inl e ↦ inl (cc) | inr e ↦ inr (cc) ])

neither : (r : Ordering) → (r ≡ Less → ⊥) → (r ≡ Greater → ⊥) → r ≡ Equal
neither Less less greater = absurd (less refl)
neither Equal less greater = refl
neither Greater less greater = absurd (greater refl)

-- where no word is a proper beginning of the other, they tie exactly where they are equal
pub equal-ranked :
    (r : Ordering) (v w : Word) →
    (r ≡ Less) ↔ IsSmaller v w →
    (r ≡ Greater) ↔ IsSmaller w v →
    ((t : List ℕ) → (letters v ≡ letters w ++ t) ⊎ (letters w ≡ letters v ++ t) → t ≡ []) →
    (r ≡ Equal) ↔ (v ≡ w)
equal-ranked r v w less greater ends = (
  λ e. tied (λ h. (let l : r ≡ Less = less.1 h in absurd cc)) (λ h. (let g : r ≡ Greater = greater.1 h in absurd cc)),
  λ e.
      neither
      r
      (λ l. smaller_irreflexive w (subst (λ (x : Word). IsSmaller x w) e (less.0 l)))
      (λ g. smaller_irreflexive w (subst (λ (x : Word). IsSmaller w x) e (greater.0 g))),
)
  where
    ended : (t u s : List ℕ) → t ≡ [] → u ≡ s ++ t → u ≡ s
    ended t u s none e = e ∙ ap (λ t. s ++ t) none ∙ append-nil s

    tied : (IsSmaller v w → ⊥) → (IsSmaller w v → ⊥) → v ≡ w
    tied below above =
        let starts : start v ≡ start w =
        omega (arith, λ (h : start v < start w). below (inl h), λ (h : start w < start v). above (inl h)) in
        let rest =
        letters-alike (letters v) (letters w) (λ h. below (inr (starts, h))) (λ h. above (inr (sym starts, h))) in
        let none = ends rest.0 rest.1 in
        same_words
        v
        w
        starts
        (elim rest.1 [ inl a ↦ ended rest.0 (letters v) (letters w) none a | inr a ↦ sym (ended rest.0 (letters w) (letters v) none a) ])

pub same_length-ends : (u v t : List ℕ) → length u ≡ length v → (u ≡ v ++ t) ⊎ (v ≡ u ++ t) → t ≡ []
same_length-ends u v t same e =
    let none : length t ≡ 0 =
    elim e [
      | inl a ↦ omega (arith, ap length a, length-append v t)
      | inr a ↦ omega (arith, ap length a, length-append u t)
    ] in
    nil_from_length t none
