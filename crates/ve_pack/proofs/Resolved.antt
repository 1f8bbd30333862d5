-- Resolved forms: of a vector without dead ids, and of a resolved form.
use Rattle.std.proofs.Common.{◌≡◌, ℕ, ◌<◌, nat_eq, [], ◌++◌, ◌⊎◌, inl, inr, sym, subst}
use Rattle.ve_theory.specs.Combinations.{scaled, difference, IsReduced}
use Rattle.ve_theory.specs.Answers.{Row}
use Rattle.ve_theory.proofs.Sums.{SameWeights-refl, SameWeights-sym, SameWeights-trans, SameWeights-append, Alike_from_weights, scaled-one, differences-append, difference_vanishes}
use Rattle.ve_machine.specs.Forwards.{Forwards, AreLive, IsResolved}
use Rattle.ve_machine.specs.Laws.{ForwardingsAreASpace}

-- the vector, or its resolved form
abbrev pub IsKeptOrResolved : ℕ → Forwards → Row → Row → Type 0
IsKeptOrResolved p forwards v w = (w ≡ v) ⊎ IsResolved p forwards v w

module _ (space : ForwardingsAreASpace) (p : ℕ) (forwards : Forwards) (positive : 0 < p) where
  pub resolved_itself : (v : Row) → IsReduced ◌<◌ p v → AreLive forwards v → IsResolved p forwards v v
  resolved_itself v reduced live = record {
    reduced = reduced;
    live = live;
    forwarding = (space p forwards positive).alike [] (difference p v v)
        (Alike_from_weights nat_eq (SameWeights-sym (difference_vanishes p v v positive (SameWeights-refl p v)))) (space p forwards positive).empty;
  }

  resolved_again : (u v w : Row) → IsResolved p forwards u v → IsResolved p forwards v w → IsResolved p forwards u w
  resolved_again u v w one other = record {
    reduced = other.reduced;
    live = other.live;
    forwarding = (space p forwards positive).alike (scaled 1 (difference p u v) ++ scaled 1 (difference p v w)) (difference p u w)
        (Alike_from_weights nat_eq
        (SameWeights-trans (SameWeights-append (scaled-one p (difference p u v)) (scaled-one p (difference p v w))) (differences-append p u v w positive)))
        ((space p forwards positive).combined 1 1 (difference p u v) (difference p v w) one.forwarding other.forwarding);
  }

  pub kept_or_resolved_again : (u v w : Row) → IsKeptOrResolved p forwards u v → IsKeptOrResolved p forwards v w → IsKeptOrResolved p forwards u w
  kept_or_resolved_again u v w (inl same) other = subst (λ x. IsKeptOrResolved p forwards x w) same other
  kept_or_resolved_again u v w (inr one) (inl same) = inr (subst (IsResolved p forwards u) (sym same) one)
  kept_or_resolved_again u v w (inr one) (inr other) = inr (resolved_again u v w one other)

  -- a vector without dead ids is kept, or else such a vector comes in its place
  pub resolved_where_live : (v w : Row) → IsReduced ◌<◌ p v → IsKeptOrResolved p forwards v w → AreLive forwards w → IsResolved p forwards v w
  resolved_where_live v w reduced (inl same) live = subst (IsResolved p forwards v) (sym same) (resolved_itself v reduced (subst (AreLive forwards) same live))
  resolved_where_live v w reduced (inr resolved) live = resolved
