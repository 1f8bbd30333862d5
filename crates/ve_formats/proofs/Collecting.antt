-- Each formal sum has a reduced list. Its keys are among those of the sum, so it is no longer.
use Rattle.std.proofs.Common.{◌≡◌, ℕ, ◌+◌, ◌%◌, ◌<◌, ◌≤◌, ◌⊎◌, inl, inr, Bool, true, false, cond, [], ◌∷◌, length, All, refl, sym, ap, ap₂, ◌∙◌, arith}
use Rattle.std.proofs.Math.Nat.{zero-mod, add-mod, mod-mod}
use Rattle.std.proofs.lemmas.Bool.{cases_lt}
use Rattle.std.proofs.lemmas.List.Elements.{All-cons, All-head, All-tail}
use Rattle.ve_theory.specs.Combinations.{Combination, coefficient, Alike, AllBefore, IsReduced, IsReducedOf}

pub record IsKeyOrder {K : Type 0} (before : K → K → Type 0) (same : K → K → Bool) : Type 0 where
  pub transitive : (i j k : K) → before i j → before j k → before i k
  pub total : (j k : K) → before j k ⊎ ((j ≡ k) ⊎ before k j)
  pub itself : (k : K) → same k k ≡ true

congruent_sum : (p a b c d : ℕ) → a % p ≡ b % p → c % p ≡ d % p → (a + c) % p ≡ (b + d) % p
congruent_sum p a b c d h k = add-mod a c p ∙ ap₂ (λ x y. (x + y) % p) h k ∙ sym (add-mod b d p)

module _ {K : Type 0} (before : K → K → Type 0) (same : K → K → Bool) (order : IsKeyOrder before same) (Q : K → Type 0) (p : ℕ) (some : 0 < p) where
  -- what holds of each key
  abbrev HoldsOf : Combination K → Type 0
  HoldsOf v = All (λ t. Q t.0) v

  -- the reduced list of a term and a reduced list
  record Inserted (t : K × ℕ) (v : Combination K) : Type 0 where
    list : Combination K
    reduced : IsReduced before p list
    alike : Alike same p list (t ∷ v)
    bounded : (m : K) → before t.0 m → AllBefore before m v → AllBefore before m list
    keys : Q t.0 → HoldsOf v → HoldsOf list
    short : length list ≤ length v + 1

  bounded_by : (j k : K) (v : Combination K) → before j k → AllBefore before j v → AllBefore before k v
  unfolding AllBefore
  bounded_by j k [] h below = tt
  bounded_by j k (t ∷ v) h below = (order.transitive t.0 j k below.0 h, bounded_by j k v h below.1)

  below_mod : (n : ℕ) → n % p < p
  below_mod n = omega arith

  -- a term that is greater than all others comes first, unless it vanishes
  placed : (t : K × ℕ) (v : Combination K) → AllBefore before t.0 v → IsReduced before p v → Inserted t v
  unfolding IsReduced AllBefore coefficient
  placed t v above reduced = by_residue (cases_lt 0 (t.1 % p))
    where
      by_residue : (0 < t.1 % p) ⊎ (t.1 % p ≤ 0) → Inserted t v
      by_residue (inl counts) = record {
        list = (t.0, t.1 % p) ∷ v;
        reduced = (counts, below_mod t.1, above, reduced);
        alike = λ k. congruent_sum p (cond (same t.0 k) (t.1 % p) 0) (cond (same t.0 k) t.1 0) (coefficient same v k) (coefficient same v k) (residue (same t.0 k)) refl;
        bounded = λ m h b. (h, b);
        keys = λ q all. All-cons (λ (s : K × ℕ). Q s.0) (t.0, t.1 % p) v q all;
        short = omega arith;
      }
        where
          residue : (test : Bool) → cond test (t.1 % p) 0 % p ≡ cond test t.1 0 % p
          residue true = mod-mod t.1 p
          residue false = refl
      by_residue (inr none) = record {
        list = v;
        reduced = reduced;
        alike = λ k. ap (λ n. n % p) (zero_add (coefficient same v k)) ∙ congruent_sum p 0 (cond (same t.0 k) t.1 0) (coefficient same v k) (coefficient same v k) (vanishes (same t.0 k)) refl;
        bounded = λ m h b. b;
        keys = λ q all. all;
        short = omega arith;
      }
        where
          zero_add : (n : ℕ) → n ≡ 0 + n
          zero_add n = omega arith

          vanishes : (test : Bool) → 0 % p ≡ cond test t.1 0 % p
          vanishes true = zero-mod p ∙ omega arith
          vanishes false = refl

  inserted : (t : K × ℕ) (v : Combination K) → IsReduced before p v → Inserted t v
  unfolding IsReduced AllBefore coefficient
  inserted t [] reduced = placed t [] tt tt
  inserted t (u ∷ v) reduced = by_order (order.total u.0 t.0) (inserted t v reduced.3)
    where
      by_order : before u.0 t.0 ⊎ ((u.0 ≡ t.0) ⊎ before t.0 u.0) → Inserted t v → Inserted t (u ∷ v)
      by_order (inl first) later = placed t (u ∷ v) (first, bounded_by u.0 t.0 v first reduced.2) reduced
      by_order (inr (inr after)) later = record {
        list = u ∷ later.list;
        reduced = (reduced.0, reduced.1, later.bounded u.0 after reduced.2, later.reduced);
        alike = λ k.
            congruent_sum p (cond (same u.0 k) u.1 0) (cond (same u.0 k) u.1 0) (coefficient same later.list k) (cond (same t.0 k) t.1 0 + coefficient same v k) refl (later.alike k)
            ∙ ap (λ n. n % p) (swapped (cond (same u.0 k) u.1 0) (cond (same t.0 k) t.1 0) (coefficient same v k));
        bounded = λ m h b. (b.0, later.bounded m h b.1);
        keys = λ q all. All-cons (λ (s : K × ℕ). Q s.0) u later.list (All-head (λ (s : K × ℕ). Q s.0) u v all) (later.keys q (All-tail (λ (s : K × ℕ). Q s.0) u v all));
        short = omega (arith, later.short);
      }
        where
          swapped : (a b c : ℕ) → a + (b + c) ≡ b + (a + c)
          swapped a b c = omega arith
      by_order (inr (inl equal)) later =
          let joined : Inserted (u.0, u.1 + t.1) v = placed (u.0, u.1 + t.1) v reduced.2 reduced.3 in
          record {
            list = joined.list;
            reduced = joined.reduced;
            alike = λ k. joined.alike k ∙ ap (λ n. n % p) (both (same u.0 k) (same t.0 k) (coefficient same v k) (ap (λ j. same j k) equal));
            bounded = λ m h b. joined.bounded m b.0 b.1;
            keys = λ q all. joined.keys (All-head (λ (s : K × ℕ). Q s.0) u v all) (All-tail (λ (s : K × ℕ). Q s.0) u v all);
            short = omega (arith, joined.short);
          }
        where
          both : (one other : Bool) (n : ℕ) → one ≡ other → cond one (u.1 + t.1) 0 + n ≡ cond other t.1 0 + (cond one u.1 0 + n)
          both true true n e = omega arith
          both false false n e = omega arith
          both true false n e = absurd (cc)
          both false true n e = absurd (cc)

  -- the reduced list of a sum
  pub record Collected (e : Combination K) : Type 0 where
    pub list : Combination K
    pub holds : IsReducedOf before same p list e
    pub keys : HoldsOf e → HoldsOf list
    pub short : length list ≤ length e

  pub collected : (e : Combination K) → Collected e
  unfolding IsReduced coefficient
  collected [] = record { list = []; holds = record { reduced = tt; alike = λ k. refl }; keys = λ all. all; short = omega arith }
  collected (t ∷ e) =
      let later = collected e in
      let next : Inserted t later.list = inserted t later.list later.holds.reduced in
      record {
        list = next.list;
        holds = record {
          reduced = next.reduced;
          alike = λ k. next.alike k ∙ congruent_sum p (cond (same t.0 k) t.1 0) (cond (same t.0 k) t.1 0) (coefficient same later.list k) (coefficient same e k) refl (later.holds.alike k);
        };
        keys = λ all. next.keys (All-head (λ (s : K × ℕ). Q s.0) t e all) (later.keys (All-tail (λ (s : K × ℕ). Q s.0) t e all));
        short = omega (arith, next.short, later.short);
      }
