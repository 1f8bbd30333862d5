-- Derivations, and the levels that they stay within.
use Rattle.std.proofs.Common.{◌≡◌, ℕ, ◌%◌, ◌<◌, ◌≤◌, max, ◌⊎◌, inl, inr, true, false, [], ◌∷◌, All, ap, arith}
use Rattle.std.proofs.lemmas.Bool.{cases_Bool}
use Rattle.std.proofs.lemmas.List.Elements.{All-cons, All-nil, All-weaker}
use Rattle.ve_theory.specs.Combinations.{Combination}
use Rattle.ve_theory.specs.Words.{Word, same_word}
use Rattle.ve_theory.specs.Elements.{Element, greatest}
use Rattle.ve_theory.specs.Presentations.{Presentation, reach, element_reach}
use Rattle.ve_theory.specs.Derivations.{Derivation, by_relator, by_submodule, combined, multiplied, nothing, value, Within, StaysWithin, Derived, DerivedWithin}
use Rattle.ve_theory.specs.Laws.{LevelsGrow}
use Rattle.ve_theory.proofs.Sums.{coefficient-absent, Decides-same_word}

-- levels

pub Within-higher : (P : Presentation) (j k : ℕ) (v : Element) → j ≤ k → Within P j v → Within P k v
Within-higher P j k v l h = λ w m. h w (omega arith)

pub StaysWithin-higher : (P : Presentation) (j k : ℕ) (t : Derivation) → j ≤ k → StaysWithin P j t → StaysWithin P k t
unfolding StaysWithin
StaysWithin-higher P j k (by_relator w number) l h = Within-higher P j k (value P (by_relator w number)) l h
StaysWithin-higher P j k (by_submodule number) l h = Within-higher P j k (value P (by_submodule number)) l h
StaysWithin-higher P j k (combined c s d t) l h =
    (StaysWithin-higher P j k s l h.0, StaysWithin-higher P j k t l h.1, Within-higher P j k (value P (combined c s d t)) l h.2)
StaysWithin-higher P j k (multiplied t x) l h = (StaysWithin-higher P j k t l h.0, Within-higher P j k (value P (multiplied t x)) l h.1)
StaysWithin-higher P j k nothing l h = tt

pub DerivedWithin-higher : (P : Presentation) (j k : ℕ) (v : Element) → j ≤ k → DerivedWithin P j v → DerivedWithin P k v
DerivedWithin-higher P j k v l h = record {
  derivation = h.derivation;
  is_derivation = h.is_derivation;
  stays = StaysWithin-higher P j k h.derivation l h.stays;
  shows = h.shows;
}

pub Derived-from_within : (P : Presentation) (k : ℕ) (v : Element) → DerivedWithin P k v → Derived P v
Derived-from_within P k v h = record { derivation = h.derivation; is_derivation = h.is_derivation; shows = h.shows }

-- an element is within k where its words are
pub Within-words : (P : Presentation) (k : ℕ) (v : Element) → All (λ t. reach P t.0 ≤ k) v → Within P k v
Within-words P k v h = λ w l. ap (λ n. n % P.prime) (coefficient-absent same_word v w (All-weaker (λ (t : Word × ℕ). reach P t.0 ≤ k) (λ t. same_word t.0 w ≡ false) (λ t m. differ t.0 w m l) v h))
  where
    differ : (u w : Word) → reach P u ≤ k → k < reach P w → same_word u w ≡ false
    differ u w m l = cases (cases_Bool (same_word u w))
      where
        cases : (same_word u w ≡ true) ⊎ (same_word u w ≡ false) → same_word u w ≡ false
        cases (inl e) = let f : reach P u ≡ reach P w = ap (reach P) ((Decides-same_word u w).0 e) in absurd (omega arith)
        cases (inr e) = e

pub All-greatest : {K : Type 0} (size : K → ℕ) (v : Combination K) (k : ℕ) → greatest size v ≤ k → All (λ t. size t.0 ≤ k) v
unfolding greatest
All-greatest {K} size [] k h = All-nil (λ (t : K × ℕ). size t.0 ≤ k)
All-greatest {K} size (t ∷ v) k h = All-cons (λ (t : K × ℕ). size t.0 ≤ k) t v (omega arith) (All-greatest size v k (omega arith))

pub Within-reach : (P : Presentation) (k : ℕ) (v : Element) → element_reach P v ≤ k → Within P k v
Within-reach P k v h = Within-words P k v (All-greatest (reach P) v k h)

-- a level that a derivation stays within
level_of : Presentation → Derivation → ℕ
level_of P (by_relator w number) = element_reach P (value P (by_relator w number))
level_of P (by_submodule number) = element_reach P (value P (by_submodule number))
level_of P (combined c s d t) = max (level_of P s) (max (level_of P t) (element_reach P (value P (combined c s d t))))
level_of P (multiplied t x) = max (level_of P t) (element_reach P (value P (multiplied t x)))
level_of P nothing = 0

StaysWithin-level_of : (P : Presentation) (t : Derivation) (k : ℕ) → level_of P t ≤ k → StaysWithin P k t
unfolding level_of StaysWithin
StaysWithin-level_of P (by_relator w number) k h = Within-reach P k (value P (by_relator w number)) h
StaysWithin-level_of P (by_submodule number) k h = Within-reach P k (value P (by_submodule number)) h
StaysWithin-level_of P (combined c s d t) k h =
    (StaysWithin-level_of P s k (omega arith), StaysWithin-level_of P t k (omega arith), Within-reach P k (value P (combined c s d t)) (omega arith))
StaysWithin-level_of P (multiplied t x) k h = (StaysWithin-level_of P t k (omega arith), Within-reach P k (value P (multiplied t x)) (omega arith))
StaysWithin-level_of P nothing k h = tt

pub derived_within_some_level : (P : Presentation) (v : Element) → Derived P v → (k : ℕ) × DerivedWithin P k v
derived_within_some_level P v h = (
  level_of P h.derivation,
  record {
    derivation = h.derivation;
    is_derivation = h.is_derivation;
    stays = StaysWithin-level_of P h.derivation (level_of P h.derivation) (omega arith);
    shows = h.shows;
  },
)

pub levels_grow : LevelsGrow
levels_grow = record { higher = DerivedWithin-higher; derived = Derived-from_within; some_level = derived_within_some_level }
