-- A vector has at most one resolved form.
use Rattle.std.proofs.Common.{◌≡◌, ℕ, ◌<◌, nat_eq, [], length, subst, arith}
use Rattle.std.specs.Prelude.{◌↔◌}
use Rattle.std.proofs.lemmas.List.Elements.{All-nil}
use Rattle.ve_theory.specs.Combinations.{unit, difference, extended, IsReduced}
use Rattle.ve_theory.specs.Answers.{Row}
use Rattle.ve_theory.proofs.Sums.{SameWeights, SameWeights-sym, SameWeights-trans, extended-by_units, difference-nil, Alike_from_weights, Decides-nat_eq}
use Rattle.ve_theory.proofs.Reduced.{below_strict, reduced_unique}
use Rattle.ve_table.specs.Tables.{ActionTable, presented, IsLive}
use Rattle.ve_table.specs.Sound.{IsSound}
use Rattle.ve_machine.specs.Forwards.{IsForwarding, IsResolved}
use Rattle.ve_machine.specs.Laws.{ForwardingsAreASpace}
use Rattle.ve_machine.proofs.Forwardings.{are_falling, positive_prime}
use Rattle.ve_machine.proofs.CarriedRows.{carried, carried_resolved}

-- resolved forms have the same weights as the vector with each id followed down to the live ones
form : (T : ActionTable) (v w : Row) → IsSound T → IsResolved (presented T).prime T.forwards v w
    → SameWeights (presented T).prime (extended (carried T.forwards unit (length T.forwards)) v) w
form T v w sound resolved =
    SameWeights-trans (carried_resolved (presented T).prime T.forwards unit (positive_prime T sound) (are_falling T sound) (length T.forwards) v w (omega arith) resolved)
    (extended-by_units (presented T).prime w)

pub resolutions_are_unique : (T : ActionTable) (v w x : Row) → IsSound T → IsResolved (presented T).prime T.forwards v w → IsResolved (presented T).prime T.forwards v x → w ≡ x
resolutions_are_unique T v w x sound one other =
    reduced_unique ◌<◌ below_strict nat_eq Decides-nat_eq (presented T).prime w x one.reduced other.reduced
    (Alike_from_weights nat_eq (SameWeights-trans (SameWeights-sym (form T v w sound one)) (form T v x sound other)))

pub forwardings_resolve_to_zero : ForwardingsAreASpace → (T : ActionTable) (v w : Row) → IsSound T → IsResolved (presented T).prime T.forwards v w
    → (IsForwarding (presented T).prime T.forwards v ↔ (w ≡ []))
unfolding IsReduced
forwardings_resolve_to_zero space T v w sound resolved = (
  λ forwarding. resolutions_are_unique T v w [] sound resolved (record {
    reduced = tt;
    live = All-nil (λ (t : ℕ × ℕ). IsLive T t.0);
    forwarding = alike v (difference p v []) (SameWeights-sym whole) forwarding;
  }),
  λ zero. alike (difference p v []) v whole (subst (λ u. IsForwarding p T.forwards (difference p v u)) zero resolved.forwarding),
)
  where
    p : ℕ
    p = (presented T).prime

    whole : SameWeights p (difference p v []) v
    whole = difference-nil p v

    alike : (u x : Row) → SameWeights p u x → IsForwarding p T.forwards u → IsForwarding p T.forwards x
    alike u x same = (space p T.forwards (positive_prime T sound)).alike u x (Alike_from_weights nat_eq same)
