-- Sums over a span of ids, in which dead ids are replaced from the greatest down.
use Rattle.std.proofs.Common.{◌≡◌, ℕ, suc, ◌+◌, ◌-◌, ◌*◌, ◌%◌, ◌<◌, ◌≤◌, ◌⊎◌, inl, inr, false, Some, None, nat_eq, [], ◌∷◌, ◌++◌, length, All, refl, sym, ap, subst, ◌∙◌, arith, ne_eqb, mod-eq_of_lt}
use Rattle.std.specs.Prelude.{Option, slice_get}
use Rattle.std.proofs.Math.Nat.{zero-mod}
use Rattle.std.proofs.lemmas.Bool.{cases_lt}
use Rattle.std.proofs.lemmas.Option.{slice_get-get_or}
use Rattle.std.proofs.lemmas.List.Elements.{All-append, All-weaker}
use Rattle.ve_theory.specs.Residues.{Congruent}
use Rattle.ve_theory.specs.Combinations.{Combination, coefficient, difference, scaled, unit, Alike, IsReducedOf}
use Rattle.ve_theory.specs.Answers.{Row}
use Rattle.ve_theory.proofs.Sums.{weigh, weigh-append, weigh-difference, weigh-scaled, coefficient-absent, SameWeights, SameWeights-refl, SameWeights-sym, SameWeights-trans, SameWeights-append, SameWeights-difference, SameWeights_of, weights_from_Alike, Decides-nat_eq, scaled-one}
use Rattle.ve_theory.proofs.Independence.{congruent_by}
use Rattle.ve_theory.proofs.Members.{All-scaled}
use Rattle.ve_theory.proofs.Reduced.{below_strict, coefficients-reduced}
use Rattle.ve_vec.proofs.Coefficients.{coefficient-append, coefficient-other, coefficient-scaled}
use Rattle.ve_table.specs.Tables.{ActionTable, presented, IsLive}
use Rattle.ve_table.specs.Sound.{IsSound, HasLiveIds}
use Rattle.ve_machine.specs.Forwards.{Forwards, IsForwarding, IsResolved}
use Rattle.ve_machine.proofs.Forwardings.{forwarded_on, positive_prime, IsForwarding-alike}
use Rattle.ve_machine.proofs.ReducedSums.{reduced_keys, reduced_same}
use Rattle.ve_settle.proofs.Forwarding.{term_moved}

-- all keys are below k
absent : (bound k : ℕ) (v : Combination ℕ) → bound ≤ k → All (λ t. t.0 < bound) v → coefficient nat_eq v k ≡ 0
absent bound k v past below =
    coefficient-absent nat_eq v k
    (All-weaker (λ (t : ℕ × ℕ). t.0 < bound) (λ (t : ℕ × ℕ). nat_eq t.0 k ≡ false) (λ t less. ne_eqb t.0 k (λ same. omega (arith, less, past, same))) v below)

-- each key of the reduced list has a coefficient in the sum
counted_keys : (Q : ℕ → Type 0) (p : ℕ) (w e : Combination ℕ) → IsReducedOf ◌<◌ nat_eq p w e → ((k : ℕ) → (Congruent p (coefficient nat_eq e k) 0 → ⊥) → Q k) → All (λ t. Q t.0) w
counted_keys Q p w e reduced counted =
    All-weaker (λ (t : ℕ × ℕ). (coefficient nat_eq w t.0 ≡ t.1) × (0 < t.1) × (t.1 < p)) (λ (t : ℕ × ℕ). Q t.0)
    (λ t own. counted t.0 (λ none. some t own.0 own.1 own.2 none))
    w (coefficients-reduced ◌<◌ below_strict nat_eq Decides-nat_eq p w reduced.reduced)
  where
    some : (t : ℕ × ℕ) → coefficient nat_eq w t.0 ≡ t.1 → 0 < t.1 → t.1 < p → Congruent p (coefficient nat_eq e t.0) 0 → ⊥
    some t own positive residue none =
        let same : t.1 % p ≡ 0 % p = ap (λ n. n % p) (sym own) ∙ (reduced.alike t.0 ∙ none) in
        let itself : t.1 % p ≡ t.1 = mod-eq_of_lt residue in
        omega (arith, zero-mod p, same, itself, positive)

-- the sorted terms go to the sum first
pub sorted_poured : (p q : ℕ) (whole start new sorted loose : Row) → q ≡ p → Alike nat_eq p start [] → Alike nat_eq q new (start ++ scaled 1 sorted) → whole ≡ sorted ++ loose
    → SameWeights p whole (new ++ loose)
sorted_poured p q whole start new sorted loose field none new_is whole_is =
    SameWeights-trans (SameWeights_of whole_is)
    (SameWeights-append
    (SameWeights-sym
    (SameWeights-trans (weights_from_Alike nat_eq Decides-nat_eq p new (start ++ scaled 1 sorted) (rw field at new_is))
    (SameWeights-append (weights_from_Alike nat_eq Decides-nat_eq p start [] none) (scaled-one p sorted))))
    (SameWeights-refl p loose))

-- a term goes from what is left to the sum
pub term_poured : (p q r : ℕ) (whole total new left rest brought : Row) (i c : ℕ) → q ≡ p → r ≡ p → brought ≡ unit i → Alike nat_eq q left ((i, c) ∷ rest)
    → Alike nat_eq r new (total ++ scaled c brought) → SameWeights p whole (total ++ left) → SameWeights p whole (new ++ rest)
term_poured p q r whole total new left rest brought i c left_field new_field brought_is left_is new_is whole_is =
    SameWeights-trans whole_is
    (SameWeights-sym (term_moved p total new left rest i c
    (weights_from_Alike nat_eq Decides-nat_eq p left ((i, c) ∷ rest) (rw left_field at left_is))
    (weights_from_Alike nat_eq Decides-nat_eq p new (total ++ scaled c (unit i)) (rw (new_field, brought_is) at new_is))))

-- no id from the bound on is in the sum, and no dead one from `from` on
pub record IsCleared (p : ℕ) (forwards : Forwards) (bound from : ℕ) (total : Combination ℕ) : Type 0 where
  pub past : (k : ℕ) → bound ≤ k → Congruent p (coefficient nat_eq total k) 0
  pub dead : (k : ℕ) (f : Row) → from ≤ k → slice_get forwards k ≡ Some (Some f) → Congruent p (coefficient nat_eq total k) 0

pub nothing_past : (p : ℕ) (forwards : Forwards) (bound : ℕ) (total v : Combination ℕ) → Alike nat_eq p total v → All (λ t. t.0 < bound) v → IsCleared p forwards bound bound total
nothing_past p forwards bound total v alike below = record { past = none; dead = λ k f past dead. none k past }
  where
    none : (k : ℕ) → bound ≤ k → Congruent p (coefficient nat_eq total k) 0
    none k past = alike k ∙ ap (λ n. n % p) (absent bound k v past below)

-- a dead id is replaced by what stands for it
pub dead_replaced : (p : ℕ) (forwards : Forwards) (bound at next : ℕ) (total rest new : Combination ℕ) (f : Row) (c : ℕ) → at + 1 ≡ next → at < bound → IsCleared p forwards bound next total
    → Alike nat_eq p total ((at, c) ∷ rest) → coefficient nat_eq rest at ≡ 0 → Alike nat_eq p new (rest ++ scaled c f) → All (λ t. t.0 < at) f → IsCleared p forwards bound at new
dead_replaced p forwards bound at next total rest new f c step within cleared total_is gone new_is below = record {
  past = λ k past. above k (omega (arith, past, within)) (cleared.past k past);
  dead = λ k g from dead. cases k g from dead (cases_lt at k);
}
  where
    brought : (k : ℕ) → at ≤ k → Congruent p (coefficient nat_eq new k) (coefficient nat_eq rest k)
    brought k from =
        let none : c * coefficient nat_eq f k ≡ c * 0 = ap (λ n. c * n) (absent at k f from below) in
        new_is k ∙ ap (λ n. n % p) (coefficient-append rest (scaled c f) k ∙ omega (arith, coefficient-scaled c f k, none))

    above : (k : ℕ) → at < k → Congruent p (coefficient nat_eq total k) 0 → Congruent p (coefficient nat_eq new k) 0
    above k less none =
        brought k (omega (arith, less))
        ∙ sym (total_is k ∙ ap (λ n. n % p) (coefficient-other (at, c) rest k (omega (arith, less))))
        ∙ none

    cases : (k : ℕ) (g : Row) → at ≤ k → slice_get forwards k ≡ Some (Some g) → (at < k) ⊎ (k ≤ at) → Congruent p (coefficient nat_eq new k) 0
    cases k g from dead (inl less) = above k less (cleared.dead k g (omega (arith, step, less)) dead)
    cases k g from dead (inr le) =
        let same : at ≡ k = omega (arith, from, le) in
        brought k from ∙ ap (λ n. n % p) (subst (λ j. coefficient nat_eq rest j ≡ 0) same gone)

-- what is left

pub live_left : (T : ActionTable) → IsSound T → (p bound : ℕ) (w total : Combination ℕ) → bound ≤ length T.words → IsCleared p T.forwards bound 0 total → IsReducedOf ◌<◌ nat_eq p w total → HasLiveIds T w
live_left T sound p bound w total within cleared reduced = counted_keys (IsLive T) p w total reduced (λ k some. cases k some (cases_lt k bound) (slice_get T.forwards k) refl)
  where
    cases : (k : ℕ) → (Congruent p (coefficient nat_eq total k) 0 → ⊥) → (k < bound) ⊎ (bound ≤ k) → (o : Option (Option Row)) → slice_get T.forwards k ≡ o → IsLive T k
    cases k some (inr past) o is = absurd (some (cleared.past k past))
    cases k some (inl less) (Some None) is = is
    cases k some (inl less) (Some (Some f)) is = absurd (some (cleared.dead k f (omega arith) is))
    cases k some (inl less) None is =
        let inside : k < length T.forwards = omega (arith, less, within, sound.one_forward_each) in
        let found = slice_get-get_or T.forwards k None inside in
        cc

pub below_left : (p : ℕ) (forwards : Forwards) (bound : ℕ) (w total : Combination ℕ) → IsCleared p forwards bound 0 total → IsReducedOf ◌<◌ nat_eq p w total → All (λ t. t.0 < bound) w
below_left p forwards bound w total cleared reduced = counted_keys (λ k. k < bound) p w total reduced (λ k some. cases k some (cases_lt k bound))
  where
    cases : (k : ℕ) → (Congruent p (coefficient nat_eq total k) 0 → ⊥) → (k < bound) ⊎ (bound ≤ k) → k < bound
    cases k some (inl less) = less
    cases k some (inr past) = absurd (some (cleared.past k past))

pub span_resolved : (T : ActionTable) → IsSound T → (bound : ℕ) (v w total : Row) → bound ≤ length T.words → IsCleared (presented T).prime T.forwards bound 0 total
    → IsForwarding (presented T).prime T.forwards (difference (presented T).prime v total) → IsReducedOf ◌<◌ nat_eq (presented T).prime w total → IsResolved (presented T).prime T.forwards v w
span_resolved T sound bound v w total within cleared forwarding reduced = record {
  reduced = reduced.reduced;
  live = live_left T sound (presented T).prime bound w total within cleared reduced;
  forwarding = IsForwarding-alike (presented T).prime T.forwards (SameWeights-difference (SameWeights-refl (presented T).prime v) (SameWeights-sym (reduced_same (presented T).prime w total reduced))) forwarding;
}

-- what is done and what is left, put together

shared : (m d l r : ℕ) → Congruent (suc m) (l + m * r) (d + l + m * (d + 1 * r))
shared m d l r = congruent_by (suc m) (l + m * r) (d + l + m * (d + 1 * r)) d 0 (omega arith)

shared_difference : (p : ℕ) (done left rest : Row) → 0 < p → SameWeights p (difference p left rest) (difference p (done ++ left) (done ++ scaled 1 rest))
shared_difference p done left rest positive = record {
  at = λ h.
      let m : ℕ = p - 1 in
      let before : weigh h (difference p left rest) ≡ weigh h left + m * weigh h rest = weigh-difference h p left rest in
      let after : weigh h (difference p (done ++ left) (done ++ scaled 1 rest)) ≡ weigh h done + weigh h left + m * (weigh h done + 1 * weigh h rest) =
      weigh-difference h p (done ++ left) (done ++ scaled 1 rest)
      ∙ ap (λ n. n + m * weigh h (done ++ scaled 1 rest)) (weigh-append h done left)
      ∙ ap (λ n. weigh h done + weigh h left + m * n) (weigh-append h done (scaled 1 rest) ∙ ap (λ n. weigh h done + n) (weigh-scaled h 1 rest)) in
      ap (λ n. n % p) before
      ∙ subst (λ q. Congruent q (weigh h left + m * weigh h rest) (weigh h done + weigh h left + m * (weigh h done + 1 * weigh h rest))) (omega (arith, positive)) (shared m (weigh h done) (weigh h left) (weigh h rest))
      ∙ ap (λ n. n % p) (sym after);
}

pub resolved_with : (T : ActionTable) → IsSound T → (v done left rest w : Row) → HasLiveIds T done → IsForwarding (presented T).prime T.forwards (difference (presented T).prime v (done ++ left))
    → IsResolved (presented T).prime T.forwards left rest → IsReducedOf ◌<◌ nat_eq (presented T).prime w (done ++ scaled 1 rest) → IsResolved (presented T).prime T.forwards v w
resolved_with T sound v done left rest w live forwarding resolved sum =
    let p : ℕ = (presented T).prime in
    let positive : 0 < p = positive_prime T sound in
    record {
      reduced = sum.reduced;
      live = reduced_keys (IsLive T) p w (done ++ scaled 1 rest) sum (All-append (λ (t : ℕ × ℕ). IsLive T t.0) done (scaled 1 rest) live (All-scaled (IsLive T) 1 rest resolved.live));
      forwarding =
          IsForwarding-alike p T.forwards (SameWeights-difference (SameWeights-refl p v) (SameWeights-sym (reduced_same p w (done ++ scaled 1 rest) sum)))
          (forwarded_on p T.forwards v (done ++ left) (done ++ scaled 1 rest) positive forwarding
          (IsForwarding-alike p T.forwards (shared_difference p done left rest positive) resolved.forwarding));
    }
