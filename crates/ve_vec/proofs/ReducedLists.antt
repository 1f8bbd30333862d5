-- Lists of keys and coefficients whose keys fall, as they are taken apart and put together.
use Rattle.std.proofs.Common.{ℕ, ◌<◌, ◌≤◌, [], ◌∷◌, ◌++◌, take, drop, sym, subst, arith}
use Rattle.std.proofs.lemmas.List.{take-append-drop}
use Rattle.ve_theory.specs.Combinations.{Combination, AllBefore, IsReduced}

pub AllBefore-higher : (j k : ℕ) (v : Combination ℕ) → j ≤ k → AllBefore ◌<◌ j v → AllBefore ◌<◌ k v
unfolding AllBefore
AllBefore-higher j k [] le below = tt
AllBefore-higher j k (t ∷ v) le below = (omega (arith, below.0), AllBefore-higher j k v le below.1)

AllBefore-drop_one : (k : ℕ) (m l : Combination ℕ) (x : ℕ × ℕ) → AllBefore ◌<◌ k (m ++ x ∷ l) → AllBefore ◌<◌ k (m ++ l)
unfolding AllBefore
AllBefore-drop_one k [] l x below = below.1
AllBefore-drop_one k (t ∷ m) l x below = (below.0, AllBefore-drop_one k m l x below.1)

AllBefore-insert : (k : ℕ) (m l r : Combination ℕ) (x : ℕ × ℕ) → AllBefore ◌<◌ k (m ++ x ∷ l) → AllBefore ◌<◌ k (m ++ r) → AllBefore ◌<◌ k (m ++ x ∷ r)
unfolding AllBefore
AllBefore-insert k [] l r x below others = (below.0, others)
AllBefore-insert k (t ∷ m) l r x below others = (below.0, AllBefore-insert k m l r x below.1 others.1)

AllBefore-new_coefficient : (k : ℕ) (m l : Combination ℕ) (j a c : ℕ) → AllBefore ◌<◌ k (m ++ (j, a) ∷ l) → AllBefore ◌<◌ k (m ++ (j, c) ∷ l)
unfolding AllBefore
AllBefore-new_coefficient k [] l j a c below = below
AllBefore-new_coefficient k (t ∷ m) l j a c below = (below.0, AllBefore-new_coefficient k m l j a c below.1)

AllBefore-front : (k : ℕ) (m r : Combination ℕ) → AllBefore ◌<◌ k (m ++ r) → AllBefore ◌<◌ k m
unfolding AllBefore
AllBefore-front k [] r below = tt
AllBefore-front k (t ∷ m) r below = (below.0, AllBefore-front k m r below.1)

-- a larger bound on the coefficients
pub IsReduced-higher : (p q : ℕ) (v : Combination ℕ) → p ≤ q → IsReduced ◌<◌ p v → IsReduced ◌<◌ q v
unfolding IsReduced
IsReduced-higher p q [] le reduced = tt
IsReduced-higher p q (t ∷ v) le reduced =
    (reduced.0, omega (arith, reduced.1), reduced.2, IsReduced-higher p q v le reduced.3)

pub IsReduced-front : (p : ℕ) (m r : Combination ℕ) → IsReduced ◌<◌ p (m ++ r) → IsReduced ◌<◌ p m
unfolding IsReduced
IsReduced-front p [] r reduced = tt
IsReduced-front p (t ∷ m) r reduced =
    (reduced.0, reduced.1, AllBefore-front t.0 m r reduced.2, IsReduced-front p m r reduced.3)

pub IsReduced-back : (p : ℕ) (m r : Combination ℕ) → IsReduced ◌<◌ p (m ++ r) → IsReduced ◌<◌ p r
unfolding IsReduced
IsReduced-back p [] r reduced = reduced
IsReduced-back p (t ∷ m) r reduced = IsReduced-back p m r reduced.3

pub IsReduced-drop : (p n : ℕ) (v : Combination ℕ) → IsReduced ◌<◌ p v → IsReduced ◌<◌ p (drop n v)
IsReduced-drop p n v reduced = IsReduced-back p (take n v) (drop n v) (subst (IsReduced ◌<◌ p) (sym (take-append-drop n v)) reduced)

-- a term in the middle
pub record IsMiddle (p : ℕ) (x : ℕ × ℕ) (l : Combination ℕ) : Type 0 where
  pub positive : 0 < x.1
  pub residue : x.1 < p
  pub above : AllBefore ◌<◌ x.0 l

pub IsReduced-middle : (p : ℕ) (m l : Combination ℕ) (x : ℕ × ℕ) → IsReduced ◌<◌ p (m ++ x ∷ l) → IsMiddle p x l
unfolding IsReduced
IsReduced-middle p [] l x reduced = record { positive = reduced.0; residue = reduced.1; above = reduced.2 }
IsReduced-middle p (t ∷ m) l x reduced = IsReduced-middle p m l x reduced.3

-- a term is left out
pub IsReduced-drop_one : (p : ℕ) (m l : Combination ℕ) (x : ℕ × ℕ) → IsReduced ◌<◌ p (m ++ x ∷ l) → IsReduced ◌<◌ p (m ++ l)
unfolding IsReduced
IsReduced-drop_one p [] l x reduced = reduced.3
IsReduced-drop_one p (t ∷ m) l x reduced =
    (reduced.0, reduced.1, AllBefore-drop_one t.0 m l x reduced.2, IsReduced-drop_one p m l x reduced.3)

-- a term that may stand after m is set between m and smaller keys
pub IsReduced-insert : (p : ℕ) (m l r : Combination ℕ) (x : ℕ × ℕ) → IsReduced ◌<◌ p (m ++ x ∷ l) → IsReduced ◌<◌ p (m ++ r) → AllBefore ◌<◌ x.0 r → IsReduced ◌<◌ p (m ++ x ∷ r)
unfolding IsReduced
IsReduced-insert p [] l r x reduced others below = (reduced.0, reduced.1, below, others)
IsReduced-insert p (t ∷ m) l r x reduced others below =
    (reduced.0, reduced.1, AllBefore-insert t.0 m l r x reduced.2 others.2, IsReduced-insert p m l r x reduced.3 others.3 below)

-- a key gets another coefficient
pub IsReduced-new_coefficient : (p : ℕ) (m l : Combination ℕ) (j a c : ℕ) → IsReduced ◌<◌ p (m ++ (j, a) ∷ l) → 0 < c → c < p → IsReduced ◌<◌ p (m ++ (j, c) ∷ l)
unfolding IsReduced
IsReduced-new_coefficient p [] l j a c reduced positive residue = (positive, residue, reduced.2, reduced.3)
IsReduced-new_coefficient p (t ∷ m) l j a c reduced positive residue =
    (reduced.0, reduced.1, AllBefore-new_coefficient t.0 m l j a c reduced.2, IsReduced-new_coefficient p m l j a c reduced.3 positive residue)
