-- Powers that are reached step by step.
use Rattle.std.proofs.Common.{◌≡◌, ℕ, zero, suc, ◌+◌, ◌-◌, ◌<◌, [], Ok, Err, refl, sym, subst, arith, add-one}
use Rattle.ve_theory.specs.Combinations.{unit, IsReduced, AllBefore}
use Rattle.ve_theory.specs.Laws.{ReducedListsAreUnique}
use Rattle.ve_theory.specs.Elements.{AlgebraElement, IsAlgebraElementOf, power}
use Rattle.ve_formats.specs.Causes.{Cause, beyond}
use Rattle.ve_formats.specs.Values as values
use Rattle.ve_formats.specs.Values.{HasPower, Multiplies}
use Rattle.ve_pres.specs.Powers.{Reaches, first, next, IsRefusedPower, IsPowerResult}
use Rattle.ve_pres.specs.declared.limit.PresFault.{PresFault}
use Rattle.ve_pres.specs.declared.limit.PresFault.TheVariants.{Limit as Exceeds, Memory}
use Rattle.ve_pres.specs.declared.limit.Limit.{Limit}
use Rattle.ve_value.specs.Faults.{limit_of, of_pres_fault, Tells}
use Rattle.ve_value.proofs.Limits.{multiplies, multiplies_too_far}

one_further : (p : ℕ) (u v w : AlgebraElement) (k : ℕ) → 0 < k → HasPower p u k (Ok v) → Multiplies p v u (Ok w) → HasPower p u (k + 1) (Ok w)
one_further p u v w zero some h m = absurd (omega arith)
one_further p u v w (suc k) some h m = rw (add-one (suc k)) (values.next h m)

pub reached_power : (p : ℕ) (u : AlgebraElement) (k : ℕ) (v : AlgebraElement) → Reaches p u k v → (0 < k) × HasPower p u k (Ok v)
reached_power p u _ _ first = (omega arith, values.first)
reached_power p u _ _ (next k v w h fine m) =
    let before = reached_power p u k v h in
    (omega arith, one_further p u v w k before.0 before.1 (multiplies p v u w m fine))

refused_there : (p : ℕ) (u v : AlgebraElement) (k : ℕ) (cause : Cause) → 0 < k → HasPower p u k (Ok v) → Multiplies p v u (Err cause) → HasPower p u (suc k) (Err cause)
refused_there p u v zero cause some h m = absurd (omega arith)
refused_there p u v (suc k) cause some h m = values.next h m

refused_later : (p : ℕ) (u : AlgebraElement) (k more : ℕ) (cause : Cause) → HasPower p u (suc k) (Err cause) → HasPower p u (suc (more + k)) (Err cause)
refused_later p u k zero cause h = subst (λ n. HasPower p u (suc n) (Err cause)) (omega arith) h
refused_later p u k (suc more) cause h =
    subst (λ n. HasPower p u (suc n) (Err cause)) (omega arith) (values.stopped (refused_later p u k more cause h))

pub refused_power : (p : ℕ) (u : AlgebraElement) (exponent : ℕ) (limit : Limit) → IsRefusedPower p u exponent limit → HasPower p u exponent (Err (beyond (limit_of limit)))
refused_power p u exponent limit h =
    let reached = reached_power p u h.reached h.value h.is_reached in
    let there = refused_there p u h.value h.reached (beyond (limit_of limit)) reached.0 reached.1 (multiplies_too_far p h.value u limit h.refused) in
    let whole : suc ((exponent - suc h.reached) + h.reached) ≡ exponent = omega (arith, h.below) in
    subst (λ n. HasPower p u n (Err (beyond (limit_of limit)))) whole (refused_later p u h.reached (exponent - suc h.reached) _ there)

pub power_refused : (p : ℕ) (u : AlgebraElement) (exponent : ℕ) (fault : PresFault) → IsPowerResult p u exponent (Err fault) → Tells (λ cause. HasPower p u exponent (Err cause)) (of_pres_fault fault)
power_refused p u exponent (Exceeds limit) h = refused_power p u exponent limit h
power_refused p u exponent Memory h = refl

-- the power of an exponent, which is 1 for the exponent 0
pub power_given : ReducedListsAreUnique → (p : ℕ) → 1 < p → (u : AlgebraElement) (exponent : ℕ) (v : AlgebraElement) → IsPowerResult p u exponent (Ok v) → IsAlgebraElementOf p v (power u exponent)
    → HasPower p u exponent (Ok v)
unfolding power IsReduced AllBefore
power_given unique p large u zero v reaches is =
    let one : v ≡ unit [] = unique.algebra p v (unit []) is.reduced (omega arith, large, tt, tt) is.alike in
    subst (λ (w : AlgebraElement). HasPower p u 0 (Ok w)) (sym one) values.zeroth
power_given unique p large u (suc k) v reaches is = (reached_power p u (suc k) v (reaches (omega arith))).1
