-- A row whose dead ids are replaced is a row of its product.
use Rattle.std.proofs.Common.{ℕ, ◌<◌, ◌≤◌, length, All, arith}
use Rattle.std.proofs.lemmas.List.Elements.{All-weaker}
use Rattle.ve_theory.specs.Combinations.{difference, extended, unit}
use Rattle.ve_theory.specs.Words.{Word}
use Rattle.ve_theory.specs.Answers.{Row, IsNotAfter}
use Rattle.ve_theory.proofs.Sums.{SameWeights-difference, SameWeights-refl, SameWeights-sym, differences-append, extended-difference}
use Rattle.ve_theory.proofs.Remainders.{All-extended}
use Rattle.ve_theory.proofs.DerivedElements.{DerivedWithin-alike}
use Rattle.ve_lemmas.proofs.Derivations.{DerivedWithin-append}
use Rattle.ve_table.specs.Tables.{ActionTable, element_of, presented, word_at}
use Rattle.ve_table.specs.Sound.{IsSound, IsVectorOf}
use Rattle.ve_machine.specs.Forwards.{IsRewritten, stand_in}
use Rattle.ve_machine.proofs.Forwardings.{IsForwarding-alike, are_falling, positive_prime, stands_below, vector_less_stand_ins}
use Rattle.ve_machine.proofs.ReducedSums.{reduced_keys, reduced_same}
use Rattle.ve_machine.proofs.ResolvedVectors.{forwarding_derived, lower_not_after}

pub rewritten_vector : (T : ActionTable) → IsSound T → (w : Word) (v next : Row) → IsVectorOf T w v → IsRewritten (presented T).prime T.forwards v next → IsVectorOf T w next
rewritten_vector T sound w v next is rewritten = record {
  stands = record {
    row = (rewritten.reduced, keys (λ n. n < length T.words) (λ i j le within. omega (arith, le, within)) is.stands.row.1);
    derived = DerivedWithin-alike (presented T) T.level
        (differences-append p (unit w) (element_of T v) (element_of T next) (positive_prime T sound))
        (DerivedWithin-append (presented T) T.level is.stands.derived
        (DerivedWithin-alike (presented T) T.level (extended-difference p (λ j. unit (word_at T j)) v next)
        (forwarding_derived T sound (difference p v next)
        (IsForwarding-alike p T.forwards
        (SameWeights-difference (SameWeights-refl p v) (SameWeights-sym (reduced_same p next (extended (stand_in T.forwards) v) rewritten)))
        (vector_less_stand_ins p T.forwards v)))));
  };
  not_after = keys (λ j. (j < length T.words) × IsNotAfter (presented T) (word_at T j) w) (λ i j le here. lower_not_after T sound w i j le here) is.not_after;
}
  where
    p : ℕ
    p = (presented T).prime

    -- what holds of the ids, and of all lower ones
    keys : (Q : ℕ → Type 0) → ((i j : ℕ) → i ≤ j → Q j → Q i) → All (λ t. Q t.0) v → All (λ t. Q t.0) next
    keys Q lower all =
        reduced_keys Q (presented T).prime next (extended (stand_in T.forwards) v) rewritten
        (All-extended Q (stand_in T.forwards) v
        (All-weaker (λ (t : ℕ × ℕ). Q t.0) (λ (t : ℕ × ℕ). All (λ (s : ℕ × ℕ). Q s.0) (stand_in T.forwards t.0))
        (λ t holds.
        All-weaker (λ (s : ℕ × ℕ). s.0 ≤ t.0) (λ (s : ℕ × ℕ). Q s.0) (λ s le. lower s.0 t.0 le holds) (stand_in T.forwards t.0)
        (stands_below T.forwards (are_falling T sound) t.0))
        v all))
