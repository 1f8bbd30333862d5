-- Each vector of a sound table's ids has a resolved form: dead ids are replaced as often as there are ids, each by lower ones.
use Rattle.std.proofs.Common.{◌≡◌, ℕ, zero, suc, ◌<◌, ◌≤◌, nat_eq, Some, None, length, All, refl, sym, subst, arith}
use Rattle.std.specs.Prelude.{Option, slice_get, slice_index_or}
use Rattle.std.proofs.lemmas.Option.{slice_get_within, slice_get-get_or}
use Rattle.std.proofs.lemmas.List.Elements.{All-weaker}
use Rattle.ve_theory.specs.Combinations.{unit, difference, extended, IsReducedOf}
use Rattle.ve_theory.specs.Answers.{Row}
use Rattle.ve_theory.proofs.Sums.{SameWeights-refl, SameWeights-sym, SameWeights-difference}
use Rattle.ve_theory.proofs.Remainders.{All-extended, All-unit}
use Rattle.ve_table.specs.Tables.{ActionTable, presented}
use Rattle.ve_table.specs.Sound.{IsSound}
use Rattle.ve_machine.specs.Forwards.{stand_in, AreLive, IsForwarding, IsResolved}
use Rattle.ve_machine.proofs.Forwardings.{live_stands, dead_stands, are_falling, stands_below, positive_prime, IsForwarding-alike, nothing_forwarded, forwarded_on, id_less_stand_in, vector_less_replaced}
use Rattle.ve_machine.proofs.ReducedSums.{reduced_keys, reduced_same, reduced_sum}

module _ (T : ActionTable) (sound : IsSound T) where
  abbrev p : ℕ
  p = (presented T).prime

  abbrev IsLiveId : ℕ → Type 0
  IsLiveId b = slice_get T.forwards b ≡ Some None

  -- an id with dead ids replaced n times
  replaced : ℕ → ℕ → Row
  replaced zero b = unit b
  replaced (suc n) b = extended (replaced n) (stand_in T.forwards b)

  replaced_forwarding : (n b : ℕ) → IsForwarding p T.forwards (difference p (unit b) (replaced n b))
  unfolding replaced
  replaced_forwarding zero b = nothing_forwarded p T.forwards (unit b) (unit b) (positive_prime T sound) (SameWeights-refl p (unit b))
  replaced_forwarding (suc n) b =
      forwarded_on p T.forwards (unit b) (stand_in T.forwards b) (extended (replaced n) (stand_in T.forwards b)) (positive_prime T sound) (id_less_stand_in p T.forwards b)
      (vector_less_replaced p T.forwards (replaced n) (stand_in T.forwards b) (λ k t inside. replaced_forwarding n (slice_index_or (stand_in T.forwards b) k t).0))

  replaced_below : (n b : ℕ) → All (λ t. t.0 ≤ b) (replaced n b)
  unfolding replaced
  replaced_below zero b = All-unit (λ k. k ≤ b) b (omega arith)
  replaced_below (suc n) b =
      All-extended (λ k. k ≤ b) (replaced n) (stand_in T.forwards b)
      (All-weaker (λ (t : ℕ × ℕ). t.0 ≤ b) (λ (t : ℕ × ℕ). All (λ (s : ℕ × ℕ). s.0 ≤ b) (replaced n t.0))
      (λ t le. All-weaker (λ (s : ℕ × ℕ). s.0 ≤ t.0) (λ (s : ℕ × ℕ). s.0 ≤ b) (λ s lower. omega (arith, lower, le)) (replaced n t.0) (replaced_below n t.0))
      (stand_in T.forwards b) (stands_below T.forwards (are_falling T sound) b))

  live_stays : (n b : ℕ) → IsLiveId b → AreLive T.forwards (replaced n b)
  unfolding replaced
  live_stays zero b live = All-unit IsLiveId b live
  live_stays (suc n) b live =
      subst (λ v. AreLive T.forwards (extended (replaced n) v)) (sym (live_stands T.forwards b live))
      (All-extended IsLiveId (replaced n) (unit b) (All-unit (λ k. AreLive T.forwards (replaced n k)) b (live_stays n b live)))

  -- an id below n is live or replaced n times
  replaced_live : (n b : ℕ) → b < n → b < length T.words → AreLive T.forwards (replaced n b)
  unfolding replaced
  replaced_live zero b less known = absurd (omega (arith, less))
  replaced_live (suc n) b less known = cases (slice_get T.forwards b) refl (λ k lower. replaced_live n k (omega (arith, lower, less)) (omega (arith, lower, known)))
    where
      cases : (o : Option (Option Row)) → slice_get T.forwards b ≡ o → ((k : ℕ) → k < b → AreLive T.forwards (replaced n k)) → AreLive T.forwards (extended (replaced n) (stand_in T.forwards b))
      cases None is lower =
          let inside : b < length T.forwards = omega (arith, known, sound.one_forward_each) in
          let there = slice_get-get_or T.forwards b None inside in
          absurd cc
      cases (Some None) is lower = live_stays (suc n) b is
      cases (Some (Some f)) is lower =
          subst (λ v. AreLive T.forwards (extended (replaced n) v)) (sym (dead_stands T.forwards b f is))
          (All-extended IsLiveId (replaced n) f
          (All-weaker (λ (t : ℕ × ℕ). t.0 < b) (λ (t : ℕ × ℕ). AreLive T.forwards (replaced n t.0)) (λ t less. lower t.0 less) f (sound.forwards b f is).below))

  pub resolution : (v : Row) → All (λ t. t.0 < length T.words) v
      → (w : Row) × IsResolved p T.forwards v w × ((bound : ℕ) → All (λ t. t.0 ≤ bound) v → All (λ t. t.0 ≤ bound) w)
  resolution v known = (
    sum.0,
    record {
      reduced = sum.1.reduced;
      live = reduced_keys IsLiveId p sum.0 raw sum.1 raw_live;
      forwarding = IsForwarding-alike p T.forwards (SameWeights-difference (SameWeights-refl p v) (SameWeights-sym (reduced_same p sum.0 raw sum.1)))
          (vector_less_replaced p T.forwards (replaced (length T.words)) v (λ k t inside. replaced_forwarding (length T.words) (slice_index_or v k t).0));
    },
    λ bound all. reduced_keys (λ n. n ≤ bound) p sum.0 raw sum.1
        (All-extended (λ n. n ≤ bound) (replaced (length T.words)) v
        (All-weaker (λ (t : ℕ × ℕ). t.0 ≤ bound) (λ (t : ℕ × ℕ). All (λ (s : ℕ × ℕ). s.0 ≤ bound) (replaced (length T.words) t.0))
        (λ t le. All-weaker (λ (s : ℕ × ℕ). s.0 ≤ t.0) (λ (s : ℕ × ℕ). s.0 ≤ bound) (λ s lower. omega (arith, lower, le)) (replaced (length T.words) t.0) (replaced_below (length T.words) t.0))
        v all)),
  )
    where
      raw : Row
      raw = extended (replaced (length T.words)) v

      raw_live : AreLive T.forwards raw
      raw_live =
          All-extended IsLiveId (replaced (length T.words)) v
          (All-weaker (λ (t : ℕ × ℕ). t.0 < length T.words) (λ (t : ℕ × ℕ). AreLive T.forwards (replaced (length T.words) t.0)) (λ t less. replaced_live (length T.words) t.0 less less) v known)

      sum : (w : Row) × IsReducedOf ◌<◌ nat_eq p w raw
      sum =
          reduced_sum p raw (positive_prime T sound) (length T.words)
          (All-weaker (λ (t : ℕ × ℕ). IsLiveId t.0) (λ (t : ℕ × ℕ). t.0 < length T.words)
          (λ t live. subst (λ n. t.0 < n) sound.one_forward_each (slice_get_within T.forwards t.0 None live)) raw raw_live)
