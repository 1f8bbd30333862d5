-- Combinations of ids, each less what stands for it.
use Rattle.std.proofs.Common.{◌≡◌, ℕ, suc, ◌+◌, ◌-◌, ◌*◌, ◌%◌, ◌<◌, nat_eq, Some, ◌∷◌, ◌++◌, sym, ap, subst, ◌∙◌, arith}
use Rattle.std.specs.Prelude.{slice_get}
use Rattle.ve_theory.specs.Residues.{Congruent}
use Rattle.ve_theory.specs.Combinations.{unit, scaled, difference, extended, Alike}
use Rattle.ve_theory.specs.Answers.{Row}
use Rattle.ve_theory.proofs.Sums.{weigh, weigh-append, weigh-scaled, weigh-unit, weigh-difference, SameWeights, SameWeights-refl, SameWeights-sym, SameWeights-trans, SameWeights-append, SameWeights-difference, weights_from_Alike, Decides-nat_eq}
use Rattle.ve_theory.proofs.Independence.{congruent_by}
use Rattle.ve_theory.proofs.DerivedElements.{SameWeights-equal}
use Rattle.ve_machine.specs.Forwards.{Forwards, stand_in, IsForwarding}
use Rattle.ve_machine.proofs.Forwardings.{less, dead_stands, forwarding_shown, IsForwarding-by}

-- a term goes from what is left to what is done
pub term_moved : (p : ℕ) (done new left rest : Row) (i c : ℕ) → SameWeights p left ((i, c) ∷ rest) → SameWeights p new (done ++ scaled c (unit i)) → SameWeights p (new ++ rest) (done ++ left)
unfolding weigh scaled
term_moved p done new left rest i c left_is new_is =
    SameWeights-trans (SameWeights-append new_is (SameWeights-refl p rest))
    (SameWeights-trans (SameWeights-equal (λ h. weigh-append h (done ++ scaled c (unit i)) rest ∙ omega (arith, weigh-append h done (scaled c (unit i)), weigh-append h done ((i, c) ∷ rest))))
    (SameWeights-append (SameWeights-refl p done) (SameWeights-sym left_is)))

pub done_live : (p : ℕ) (forwards : Forwards) (v done new left rest : Row) (i c : ℕ) → SameWeights p left ((i, c) ∷ rest) → SameWeights p new (done ++ scaled c (unit i))
    → IsForwarding p forwards (difference p v (done ++ left)) → IsForwarding p forwards (difference p v (new ++ rest))
done_live p forwards v done new left rest i c left_is new_is forwarding =
    IsForwarding-by p forwards (difference p v (new ++ rest)) forwarding.by
    (SameWeights-trans (SameWeights-difference (SameWeights-refl p v) (term_moved p done new left rest i c left_is new_is)) (forwarding_shown p forwards (difference p v (done ++ left)) forwarding))

exchanged : (m v r l f a c : ℕ) → Congruent (suc m) (v + m * (r + (l + c * f))) (v + m * (r + (c * a + l)) + c * (a + m * f))
exchanged m v r l f a c = congruent_by (suc m) (v + m * (r + (l + c * f))) (v + m * (r + (c * a + l)) + c * (a + m * f)) (c * a) 0 (omega arith)

-- a term is replaced by what stands for it
pub done_dead : (p : ℕ) (forwards : Forwards) (v done left rest new f : Row) (i c : ℕ) → 0 < p → SameWeights p left ((i, c) ∷ rest) → stand_in forwards i ≡ f → SameWeights p new (rest ++ scaled c f)
    → IsForwarding p forwards (difference p v (done ++ left)) → IsForwarding p forwards (difference p v (done ++ new))
unfolding weigh extended
done_dead p forwards v done left rest new f i c positive left_is f_is new_is forwarding =
    IsForwarding-by p forwards (difference p v (done ++ new)) ((i, c) ∷ forwarding.by)
    (SameWeights-trans (SameWeights-difference (SameWeights-refl p v) (SameWeights-append (SameWeights-refl p done) new_is))
    (SameWeights-trans replaced
    (SameWeights-append (SameWeights-refl p (scaled c (less p forwards i)))
    (SameWeights-trans (SameWeights-difference (SameWeights-refl p v) (SameWeights-append (SameWeights-refl p done) (SameWeights-sym left_is)))
    (forwarding_shown p forwards (difference p v (done ++ left)) forwarding)))))
  where
    replaced : SameWeights p (difference p v (done ++ (rest ++ scaled c f))) (scaled c (less p forwards i) ++ difference p v (done ++ (i, c) ∷ rest))
    replaced = record {
      at = λ h.
          let m : ℕ = p - 1 in
          let left_weight : weigh h (difference p v (done ++ (rest ++ scaled c f))) ≡ weigh h v + m * (weigh h done + (weigh h rest + c * weigh h f)) =
          weigh-difference h p v (done ++ (rest ++ scaled c f))
          ∙ ap (λ n. weigh h v + m * n) (weigh-append h done (rest ++ scaled c f) ∙ ap (λ n. weigh h done + n) (weigh-append h rest (scaled c f) ∙ ap (λ n. weigh h rest + n) (weigh-scaled h c f))) in
          let first_weight : weigh h (scaled c (less p forwards i)) ≡ c * (h i + m * weigh h f) =
          weigh-scaled h c (less p forwards i)
          ∙ ap (λ n. c * n) (weigh-difference h p (unit i) (stand_in forwards i) ∙ ap (λ w. weigh h (unit i) + m * weigh h w) f_is ∙ ap (λ n. n + m * weigh h f) (weigh-unit h i)) in
          let other_weight : weigh h (difference p v (done ++ (i, c) ∷ rest)) ≡ weigh h v + m * (weigh h done + (c * h i + weigh h rest)) =
          weigh-difference h p v (done ++ (i, c) ∷ rest) ∙ ap (λ n. weigh h v + m * n) (weigh-append h done ((i, c) ∷ rest)) in
          let right_weight : weigh h (scaled c (less p forwards i) ++ difference p v (done ++ (i, c) ∷ rest)) ≡ weigh h v + m * (weigh h done + (c * h i + weigh h rest)) + c * (h i + m * weigh h f) =
          weigh-append h (scaled c (less p forwards i)) (difference p v (done ++ (i, c) ∷ rest)) ∙ omega (arith, first_weight, other_weight) in
          ap (λ n. n % p) left_weight
          ∙ subst (λ q. Congruent q (weigh h v + m * (weigh h done + (weigh h rest + c * weigh h f))) (weigh h v + m * (weigh h done + (c * h i + weigh h rest)) + c * (h i + m * weigh h f)))
          (omega (arith, positive)) (exchanged m (weigh h v) (weigh h done) (weigh h rest) (weigh h f) (h i) c)
          ∙ ap (λ n. n % p) (sym right_weight);
    }

-- the same as a program pushes it, whose fields are that of p
pub forward_pushed : (p : ℕ) (forwards : Forwards) (q r : ℕ) (v done left rest new f : Row) (i c : ℕ) → 0 < p → q ≡ p → r ≡ p → slice_get forwards i ≡ Some (Some f)
    → Alike nat_eq q left ((i, c) ∷ rest) → Alike nat_eq r new (rest ++ scaled c f) → IsForwarding p forwards (difference p v (done ++ left)) → IsForwarding p forwards (difference p v (done ++ new))
forward_pushed p forwards q r v done left rest new f i c positive left_field new_field dead left_is new_is forwarding =
    done_dead p forwards v done left rest new f i c positive (weights_from_Alike nat_eq Decides-nat_eq p left ((i, c) ∷ rest) (rw left_field at left_is)) (dead_stands forwards i f dead)
    (weights_from_Alike nat_eq Decides-nat_eq p new (rest ++ scaled c f) (rw new_field at new_is)) forwarding
