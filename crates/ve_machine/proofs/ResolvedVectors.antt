-- Resolved forms of a sound table's vectors: they stand for what the vectors stand for.
use Rattle.std.proofs.Common.{◌≡◌, ℕ, ◌<◌, ◌≤◌, ◌⊎◌, inl, inr, nat_eq, None, length, All, ap, subst, arith}
use Rattle.std.specs.Prelude.{slice_index_or}
use Rattle.std.proofs.lemmas.Bool.{cases_lt}
use Rattle.std.proofs.lemmas.Option.{slice_get_within}
use Rattle.std.proofs.lemmas.List.Elements.{All-weaker}
use Rattle.ve_theory.specs.Combinations.{unit, difference, extended}
use Rattle.ve_theory.specs.Words.{Word, generator}
use Rattle.ve_theory.specs.Derivations.{DerivedWithin}
use Rattle.ve_theory.specs.Answers.{Row, IsNotAfter}
use Rattle.ve_theory.proofs.Sums.{SameWeights-refl, SameWeights-sym, SameWeights-trans, SameWeights-difference, SameWeights-extended, extended-unit, extended-by_units, extended-extended, extended-difference, difference_vanishes, differences-append, Alike_from_weights}
use Rattle.ve_theory.proofs.Remainders.{All-extended}
use Rattle.ve_theory.proofs.DerivedElements.{DerivedWithin-alike, DerivedWithin-nothing}
use Rattle.ve_theory.proofs.OrderedRows.{IsNotAfter-trans}
use Rattle.ve_lemmas.proofs.Derivations.{DerivedWithin-append, DerivedWithin-extended}
pub use Rattle.ve_lemmas.proofs.Derivations.{DerivedWithin-append as derived_both, DerivedWithin-extended as derived_sum}
use Rattle.ve_table.specs.Tables.{ActionTable, presented, word_at, element_of, IsLive}
use Rattle.ve_table.specs.Sound.{IsSound, IsVectorOf}
use Rattle.ve_machine.specs.Forwards.{stand_in, AreLive, IsForwarding, IsResolved}
use Rattle.ve_machine.proofs.Forwardings.{positive_prime, are_falling, stands_by, less, forwarding_shown}
use Rattle.ve_machine.proofs.ReducedSums.{reduced_keys}
use Rattle.ve_machine.proofs.CarriedRows.{carried, carried_resolved, carried_below}

module _ (T : ActionTable) (sound : IsSound T) where
  -- an id, less what stands for it, is derived
  id_less_stand_in : (b : ℕ) → DerivedWithin (presented T) T.level (difference (presented T).prime (unit (word_at T b)) (element_of T (stand_in T.forwards b)))
  id_less_stand_in b =
      stands_by (λ v. DerivedWithin (presented T) T.level (difference (presented T).prime (unit (word_at T b)) (element_of T v))) T.forwards b
      (DerivedWithin-alike (presented T) T.level
      (SameWeights-sym (difference_vanishes (presented T).prime (unit (word_at T b)) (element_of T (unit b)) (positive_prime T sound) (SameWeights-sym (extended-unit (presented T).prime (λ j. unit (word_at T j)) b))))
      (DerivedWithin-nothing (presented T) T.level))
      (λ f is. (sound.forwards b f is).stands.derived)

  -- so are forwardings
  pub forwarding_derived : (v : Row) → IsForwarding (presented T).prime T.forwards v → DerivedWithin (presented T) T.level (element_of T v)
  forwarding_derived v forwarding =
      DerivedWithin-alike (presented T) T.level
      (SameWeights-trans (SameWeights-sym (extended-extended (presented T).prime (λ j. unit (word_at T j)) (less (presented T).prime T.forwards) forwarding.by))
      (SameWeights-extended (λ j. unit (word_at T j))
      (SameWeights-sym (forwarding_shown (presented T).prime T.forwards v forwarding))))
      (DerivedWithin-extended (presented T) T.level (λ b. element_of T (less (presented T).prime T.forwards b)) forwarding.by (λ k t inside. one (slice_index_or forwarding.by k t).0))
    where
      one : (b : ℕ) → DerivedWithin (presented T) T.level (element_of T (difference (presented T).prime (unit b) (stand_in T.forwards b)))
      one b =
          DerivedWithin-alike (presented T) T.level
          (SameWeights-sym (SameWeights-trans (extended-difference (presented T).prime (λ j. unit (word_at T j)) (unit b) (stand_in T.forwards b))
          (SameWeights-difference (extended-unit (presented T).prime (λ j. unit (word_at T j)) b) (SameWeights-refl (presented T).prime (element_of T (stand_in T.forwards b))))))
          (id_less_stand_in b)

  pub resolved_derived : (v w : Row) → IsResolved (presented T).prime T.forwards v w → DerivedWithin (presented T) T.level (difference (presented T).prime (element_of T v) (element_of T w))
  resolved_derived v w resolved =
      DerivedWithin-alike (presented T) T.level (extended-difference (presented T).prime (λ j. unit (word_at T j)) v w)
      (forwarding_derived (difference (presented T).prime v w) resolved.forwarding)

  pub live_within : (w : Row) → AreLive T.forwards w → All (λ t. t.0 < length T.words) w
  live_within w live =
      All-weaker (λ (t : ℕ × ℕ). IsLive T t.0) (λ (t : ℕ × ℕ). t.0 < length T.words) (λ t is. subst (λ n. t.0 < n) sound.one_forward_each (slice_get_within T.forwards t.0 None is)) w live

  -- a lower id's word isn't after
  pub lower_not_after : (u : Word) (a b : ℕ) → a ≤ b → (b < length T.words) × IsNotAfter (presented T) (word_at T b) u → (a < length T.words) × IsNotAfter (presented T) (word_at T a) u
  lower_not_after u a b le here = (omega (arith, le, here.0), IsNotAfter-trans (presented T) (word_at T a) (word_at T b) u (cases (cases_lt a b)) here.1)
    where
      cases : (a < b) ⊎ (b ≤ a) → IsNotAfter (presented T) (word_at T a) (word_at T b)
      cases (inl less) = inl (sound.rising a b (generator 0) less here.0)
      cases (inr past) = let same : a ≡ b = omega (arith, le, past) in inr (ap (word_at T) same)

  -- the resolved form is a vector of what the vector is one of
  pub resolved_vector : (u : Word) (v w : Row) → IsVectorOf T u v → IsResolved (presented T).prime T.forwards v w → IsVectorOf T u w
  resolved_vector u v w is resolved = record {
    stands = record {
      row = (resolved.reduced, live_within w resolved.live);
      derived = DerivedWithin-alike (presented T) T.level
          (differences-append (presented T).prime (unit u) (element_of T v) (element_of T w) (positive_prime T sound))
          (DerivedWithin-append (presented T) T.level is.stands.derived (resolved_derived v w resolved));
    };
    not_after = reduced_keys (λ j. (j < length T.words) × IsNotAfter (presented T) (word_at T j) u) (presented T).prime w (extended standing v)
        (record {
          reduced = resolved.reduced;
          alike = Alike_from_weights nat_eq (SameWeights-sym (SameWeights-trans (carried_resolved (presented T).prime T.forwards unit (positive_prime T sound) (are_falling T sound) (length T.forwards) v w (omega arith) resolved) (extended-by_units (presented T).prime w)));
        })
        (All-extended (λ j. (j < length T.words) × IsNotAfter (presented T) (word_at T j) u) standing v
        (λ k d lt.
        let b = (slice_index_or v k d).0 in
        All-weaker (λ (t : ℕ × ℕ). t.0 ≤ b) (λ (t : ℕ × ℕ). (t.0 < length T.words) × IsNotAfter (presented T) (word_at T t.0) u)
        (λ t le. lower_not_after u t.0 b le (is.not_after k d lt)) (carried T.forwards unit (length T.forwards) b)
        (carried_below T.forwards (are_falling T sound) (length T.forwards) b)));
  }
    where
      standing : ℕ → Row
      standing = carried T.forwards unit (length T.forwards)
