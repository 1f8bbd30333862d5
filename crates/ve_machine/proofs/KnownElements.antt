-- Sums of elements that are known.
use Rattle.std.proofs.Common.{ℕ, ◌-◌, ◌<◌, [], ◌∷◌, ◌++◌, All, arith}
use Rattle.std.proofs.Math.ListN.{set}
use Rattle.std.specs.Prelude.{Some}
use Rattle.std.proofs.lemmas.List.Elements.{All-head, All-tail}
use Rattle.ve_theory.specs.Combinations.{Combination, unit, scaled, difference, extended}
use Rattle.ve_theory.specs.Words.{same_word}
use Rattle.ve_theory.specs.Elements.{Element}
use Rattle.ve_theory.specs.Answers.{Row}
use Rattle.ve_theory.proofs.Sums.{weigh-append, weigh-scaled, SameWeights, SameWeights-sym, extended-difference, differences-append, difference-nil, Alike_from_weights}
use Rattle.ve_theory.proofs.DerivedElements.{SameWeights-equal}
use Rattle.ve_table.specs.Tables.{ActionTable, presented, word_at, element_of}
use Rattle.ve_machine.specs.Forwards.{Forwards, IsForwarding}
use Rattle.ve_machine.specs.Known.{Known, by_forwards, by_row, by_image, alike, combined, multiplied}
use Rattle.ve_machine.specs.Jobs.{IsLiveIn}
use Rattle.ve_machine.proofs.Forwardings.{IsForwarding-nothing, stays_forwarding}

pub Known-alike : (O : ActionTable) (forwards : Forwards) {u v : Element} → SameWeights (presented O).prime u v → Known O forwards u → Known O forwards v
Known-alike O forwards {u} {v} same known = alike u v (Alike_from_weights same_word same) known

pub Known-nothing : (O : ActionTable) (forwards : Forwards) → Known O forwards []
unfolding extended
Known-nothing O forwards = by_forwards [] (IsForwarding-nothing (presented O).prime forwards)

pub Known-append : (O : ActionTable) (forwards : Forwards) {u v : Element} → Known O forwards u → Known O forwards v → Known O forwards (u ++ v)
Known-append O forwards {u} {v} one other = Known-alike O forwards (SameWeights-equal (λ g. simp (weigh-append, weigh-scaled) (omega arith))) (combined 1 1 u v one other)

pub Known-scaled : (O : ActionTable) (forwards : Forwards) (c : ℕ) {u : Element} → Known O forwards u → Known O forwards (scaled c u)
Known-scaled O forwards c {u} one = Known-alike O forwards (SameWeights-equal (λ g. simp (weigh-append, weigh-scaled) (omega arith))) (combined c 0 u u one one)

pub Known-difference : (O : ActionTable) (forwards : Forwards) {u v : Element} → Known O forwards u → Known O forwards v → Known O forwards (difference (presented O).prime u v)
Known-difference O forwards one other = Known-append O forwards one (Known-scaled O forwards ((presented O).prime - 1) other)

-- a combination of what is known
pub Known-extended : {K : Type 0} (O : ActionTable) (forwards : Forwards) (f : K → Element) (v : Combination K) → All (λ t. Known O forwards (f t.0)) v → Known O forwards (extended f v)
unfolding extended
Known-extended O forwards f [] all = Known-nothing O forwards
Known-extended {K} O forwards f (t ∷ v) all =
    Known-append O forwards (Known-scaled O forwards t.1 (All-head (λ (s : K × ℕ). Known O forwards (f s.0)) t v all))
    (Known-extended O forwards f v (All-tail (λ (s : K × ℕ). Known O forwards (f s.0)) t v all))

-- by way of v
pub known_on : (O : ActionTable) (forwards : Forwards) (u v w : Element) → 0 < (presented O).prime → Known O forwards (difference (presented O).prime u v)
    → Known O forwards (difference (presented O).prime v w) → Known O forwards (difference (presented O).prime u w)
known_on O forwards u v w positive one other = Known-alike O forwards (differences-append (presented O).prime u v w positive) (Known-append O forwards one other)

pub Known-chained : (O : ActionTable) (forwards : Forwards) (u v : Element) → 0 < (presented O).prime → Known O forwards (difference (presented O).prime u v) → Known O forwards v → Known O forwards u
Known-chained O forwards u v positive one other =
    Known-alike O forwards (difference-nil (presented O).prime u)
    (known_on O forwards u v [] positive one (Known-alike O forwards (SameWeights-sym (difference-nil (presented O).prime v)) other))

-- the elements of vectors that differ by a forwarding
pub known_forwarded : (O : ActionTable) (forwards : Forwards) (u v : Row) → IsForwarding (presented O).prime forwards (difference (presented O).prime u v)
    → Known O forwards (difference (presented O).prime (element_of O u) (element_of O v))
known_forwarded O forwards u v forwarding =
    Known-alike O forwards (extended-difference (presented O).prime (λ j. unit (word_at O j)) u v) (by_forwards (difference (presented O).prime u v) forwarding)

-- what is known stays so where a live id dies
pub stays_known : (O : ActionTable) (forwards : Forwards) (b : ℕ) (f : Row) (v : Element) → 0 < (presented O).prime → IsLiveIn forwards b → Known O forwards v → Known O (set forwards b (Some f)) v
stays_known O forwards b f v positive live (by_forwards u forwarding) = by_forwards u (stays_forwarding (presented O).prime forwards b f positive live u forwarding)
stays_known O forwards b f v positive live (by_row c x u is) = by_row c x u is
stays_known O forwards b f v positive live (by_image i u is) = by_image i u is
stays_known O forwards b f v positive live (alike u w same known) = alike u w same (stays_known O forwards b f u positive live known)
stays_known O forwards b f v positive live (combined c d u w one other) = combined c d u w (stays_known O forwards b f u positive live one) (stays_known O forwards b f w positive live other)
stays_known O forwards b f v positive live (multiplied u x letter within known) = multiplied u x letter within (stays_known O forwards b f u positive live known)
