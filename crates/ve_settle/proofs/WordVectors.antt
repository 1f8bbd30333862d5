-- What can stand in the place of a product's or a generator's vector.
use Rattle.std.proofs.Common.{ℕ, ◌<◌, ◌≤◌, inl, inr, length, All, sym, subst, arith}
use Rattle.ve_theory.specs.Combinations.{unit, difference, IsReduced}
use Rattle.ve_theory.specs.Words.{Word}
use Rattle.ve_theory.specs.Derivations.{DerivedWithin}
use Rattle.ve_theory.specs.Answers.{Row, IsNotAfter}
use Rattle.ve_theory.specs.Laws.{IsTotalOrder}
use Rattle.ve_theory.proofs.Sums.{differences-append}
use Rattle.ve_theory.proofs.DerivedElements.{DerivedWithin-alike}
use Rattle.ve_table.specs.Tables.{ActionTable, presented, word_at, element_of}
use Rattle.ve_table.specs.Sound.{IsSound, IsVectorOf}
use Rattle.ve_machine.proofs.ResolvedVectors.{derived_both}
use Rattle.ve_machine.proofs.Forwardings.{positive_prime}
use Rattle.ve_settle.proofs.Order.{lower_not_after}

-- what holds of the ids of v, and of all lower ids, holds of those of w
abbrev pub HasNoHigherIds : Row → Row → Type 1
HasNoHigherIds v w = (Q : ℕ → Type 0) → ((i j : ℕ) → i ≤ j → Q j → Q i) → All (λ t. Q t.0) v → All (λ t. Q t.0) w

module _ (T : ActionTable) (sound : IsSound T) (order : IsTotalOrder (presented T)) where
  not_after_trans : (u v w : Word) → IsNotAfter (presented T) u v → IsNotAfter (presented T) v w → IsNotAfter (presented T) u w
  not_after_trans u v w (inl one) (inl other) = inl (order.transitive u v w one other)
  not_after_trans u v w (inl one) (inr same) = subst (λ x. IsNotAfter (presented T) u x) same (inl one)
  not_after_trans u v w (inr same) other = subst (λ x. IsNotAfter (presented T) x w) (sym same) other

  -- a vector that differs from the word's by what is derived, and has no higher ids
  pub vector_kept : (word : Word) (v w : Row) → IsVectorOf T word v → IsReduced ◌<◌ (presented T).prime w
      → DerivedWithin (presented T) T.level (difference (presented T).prime (element_of T v) (element_of T w)) → HasNoHigherIds v w → IsVectorOf T word w
  vector_kept word v w old reduced derived lower_ids = record {
    stands = record {
      row = (reduced, lower_ids (λ n. n < length T.words) (λ i j le within. omega (arith, le, within)) old.stands.row.1);
      derived = DerivedWithin-alike (presented T) T.level
          (differences-append (presented T).prime (unit word) (element_of T v) (element_of T w) (positive_prime T sound))
          (derived_both (presented T) T.level old.stands.derived derived);
    };
    not_after = lower_ids (λ n. (n < length T.words) × IsNotAfter (presented T) (word_at T n) word)
        (λ i j le fits. (omega (arith, le, fits.0), not_after_trans (word_at T i) (word_at T j) word (lower_not_after T sound order i j le fits.0) fits.1))
        old.not_after;
  }
