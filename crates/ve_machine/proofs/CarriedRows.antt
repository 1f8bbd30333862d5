-- Rows given to ids. From live ids they go on to the dead ones, so that each id has the row of what stands for it: combinations of
-- ids then have the rows of their resolved forms, and forwardings have none.
use Rattle.std.proofs.Common.{◌≡◌, ◌≢◌, ℕ, zero, suc, ◌+◌, ◌-◌, ◌<◌, ◌≤◌, ◌⊎◌, inl, inr, cond, nat_eq, Some, None, [], length, All, refl, sym, ap, subst, ◌∙◌, arith, eq-eqb}
use Rattle.std.specs.Prelude.{slice_get, slice_index_or}
use Rattle.std.proofs.lemmas.Bool.{cond-true, cond-false, ne_eqb, cases_eq}
use Rattle.std.proofs.lemmas.Option.{slice_get_within}
use Rattle.std.proofs.lemmas.List.Elements.{All-weaker}
use Rattle.ve_theory.specs.Combinations.{unit, difference, extended}
use Rattle.ve_theory.specs.Answers.{Row}
use Rattle.ve_theory.proofs.Sums.{SameWeights, SameWeights-refl, SameWeights-sym, SameWeights-trans, SameWeights-extended, SameWeights-extended_by, SameWeights_of, extended-unit, extended-extended, extended-difference, extended_vanishes, difference_vanishes, same_from_difference}
use Rattle.ve_theory.proofs.Remainders.{All-extended, All-unit}
use Rattle.ve_machine.specs.Forwards.{Forwards, stand_in, AreLive, IsForwarding, IsResolved}
use Rattle.ve_machine.proofs.Forwardings.{live_stands, dead_stands, AreFalling, stands_below, stands_by, less, forwarding_shown}

-- what vanishes for each id less what stands for it vanishes for forwardings
pub forwarding_vanishes : (p : ℕ) (forwards : Forwards) (rows : ℕ → Row) (v : Row) → 0 < p → ((b : ℕ) → SameWeights p (rows b) (extended rows (stand_in forwards b)))
    → IsForwarding p forwards v → SameWeights p (extended rows v) []
forwarding_vanishes p forwards rows v positive stands forwarding =
    SameWeights-trans (SameWeights-extended rows (forwarding_shown p forwards v forwarding))
    (SameWeights-trans (extended-extended p rows (less p forwards) forwarding.by)
    (extended_vanishes p (λ b. extended rows (less p forwards b)) forwarding.by (λ k t inside. one (slice_index_or forwarding.by k t).0)))
  where
    one : (b : ℕ) → SameWeights p (extended rows (less p forwards b)) []
    one b =
        SameWeights-trans (extended-difference p rows (unit b) (stand_in forwards b))
        (difference_vanishes p (extended rows (unit b)) (extended rows (stand_in forwards b)) positive (SameWeights-trans (extended-unit p rows b) (stands b)))

module _ (forwards : Forwards) (own : ℕ → Row) where
  -- the rows of ids below n, from those of the live ones
  pub carried : ℕ → ℕ → Row
  carried zero b = own b
  carried (suc n) b = cond (nat_eq b n) (extended (carried n) (stand_in forwards n)) (carried n b)

  carried_here : (n : ℕ) → carried (suc n) n ≡ extended (carried n) (stand_in forwards n)
  unfolding carried
  carried_here n = cond-true (nat_eq n n) (extended (carried n) (stand_in forwards n)) (carried n n) (eq-eqb n n refl)

  carried_else : (n b : ℕ) → b ≢ n → carried (suc n) b ≡ carried n b
  unfolding carried
  carried_else n b other = cond-false (nat_eq b n) (extended (carried n) (stand_in forwards n)) (carried n b) (ne_eqb b n other)

  -- an id keeps its row
  carried_on : (k n b : ℕ) → b < n → carried (k + n) b ≡ carried n b
  carried_on zero n b less = ap (λ m. carried m b) (omega arith)
  carried_on (suc k) n b less = ap (λ m. carried m b) (omega arith) ∙ carried_else (k + n) b (omega (arith, less)) ∙ carried_on k n b less

module _ (p : ℕ) (forwards : Forwards) (own : ℕ → Row) where
  -- the rows that ids below n have
  abbrev rows : ℕ → ℕ → Row
  rows n b = carried forwards own n b

  -- where the id itself stands for it, it has its own
  carried_own : (n b : ℕ) → stand_in forwards b ≡ unit b → SameWeights p (rows n b) (own b)
  unfolding carried
  carried_own zero b itself = SameWeights-refl p (own b)
  carried_own (suc n) b itself = cases (cases_eq b n) (carried_own n b itself)
    where
      cases : (b ≡ n) ⊎ (b ≢ n) → SameWeights p (rows n b) (own b) → SameWeights p (rows (suc n) b) (own b)
      cases (inl same) before =
          SameWeights-trans (SameWeights_of (ap (rows (suc n)) same ∙ carried_here forwards own n ∙ ap (λ m. extended (rows n) (stand_in forwards m)) (sym same) ∙ ap (extended (rows n)) itself))
          (SameWeights-trans (extended-unit p (rows n) b) before)
      cases (inr other) before = SameWeights-trans (SameWeights_of (carried_else forwards own n b other)) before

  pub carried_live : (n b : ℕ) → slice_get forwards b ≡ Some None → SameWeights p (rows n b) (own b)
  carried_live n b live = carried_own n b (live_stands forwards b live)

  pub carried_alive : (n : ℕ) (w : Row) → AreLive forwards w → SameWeights p (extended (rows n) w) (extended own w)
  carried_alive n w live =
      SameWeights-extended_by (rows n) own w
      (All-weaker (λ (t : ℕ × ℕ). slice_get forwards t.0 ≡ Some None) (λ (t : ℕ × ℕ). SameWeights p (rows n t.0) (own t.0)) (λ t is. carried_live n t.0 is) w live)

  module _ (positive : 0 < p) (falling : AreFalling forwards) where
    -- an id has the row of what stands for it
    pub carried_stands : (n b : ℕ) → length forwards ≤ n → SameWeights p (rows n b) (extended (rows n) (stand_in forwards b))
    carried_stands n b within =
        stands_by (λ v. SameWeights p (rows n b) (extended (rows n) v)) forwards b (SameWeights-sym (extended-unit p (rows n) b)) dead
      where
        dead : (f : Row) → slice_get forwards b ≡ Some (Some f) → SameWeights p (rows n b) (extended (rows n) f)
        dead f is =
            let place : b < length forwards = slice_get_within forwards b (Some f) is in
            let above : n ≡ (n - suc b) + suc b = omega (arith, place, within) in
            let higher : n ≡ suc (n - suc b) + b = omega (arith, place, within) in
            SameWeights-trans
            (SameWeights_of (ap (λ m. rows m b) above ∙ carried_on forwards own (n - suc b) (suc b) b (omega arith) ∙ carried_here forwards own b ∙ ap (extended (rows b)) (dead_stands forwards b f is)))
            (SameWeights-extended_by (rows b) (rows n) f
            (All-weaker (λ (t : ℕ × ℕ). t.0 < b) (λ (t : ℕ × ℕ). SameWeights p (rows b t.0) (rows n t.0))
            (λ t less. SameWeights_of (sym (ap (λ m. rows m t.0) higher ∙ carried_on forwards own (suc (n - suc b)) b t.0 less))) f (falling b f is)))

    pub carried_forwarding : (n : ℕ) (v : Row) → length forwards ≤ n → IsForwarding p forwards v → SameWeights p (extended (rows n) v) []
    carried_forwarding n v within forwarding = forwarding_vanishes p forwards (rows n) v positive (λ b. carried_stands n b within) forwarding

    -- vectors that differ by forwards have the same row
    pub carried_same : (n : ℕ) (v w : Row) → length forwards ≤ n → IsForwarding p forwards (difference p v w) → SameWeights p (extended (rows n) v) (extended (rows n) w)
    carried_same n v w within forwarding =
        same_from_difference p (extended (rows n) v) (extended (rows n) w) positive
        (SameWeights-trans (SameWeights-sym (extended-difference p (rows n) v w)) (carried_forwarding n (difference p v w) within forwarding))

    -- a vector has the row of its resolved form
    pub carried_resolved : (n : ℕ) (v w : Row) → length forwards ≤ n → IsResolved p forwards v w → SameWeights p (extended (rows n) v) (extended own w)
    carried_resolved n v w within resolved = SameWeights-trans (carried_same n v w within resolved.forwarding) (carried_alive n w resolved.live)

-- resolved ids

pub carried_below : (forwards : Forwards) → AreFalling forwards → (n b : ℕ) → All (λ t. t.0 ≤ b) (carried forwards unit n b)
unfolding carried
carried_below forwards falling zero b = All-unit (λ c. c ≤ b) b (omega arith)
carried_below forwards falling (suc n) b = cases (cases_eq b n) (carried_below forwards falling n)
  where
    cases : (b ≡ n) ⊎ (b ≢ n) → ((c : ℕ) → All (λ t. t.0 ≤ c) (carried forwards unit n c)) → All (λ t. t.0 ≤ b) (carried forwards unit (suc n) b)
    cases (inl same) before =
        subst (λ v. All (λ (t : ℕ × ℕ). t.0 ≤ b) v) (sym (ap (carried forwards unit (suc n)) same ∙ carried_here forwards unit n))
        (All-extended (λ c. c ≤ b) (carried forwards unit n) (stand_in forwards n)
        (All-weaker (λ (t : ℕ × ℕ). t.0 ≤ n) (λ (t : ℕ × ℕ). All (λ (s : ℕ × ℕ). s.0 ≤ b) (carried forwards unit n t.0))
        (λ t le. All-weaker (λ (s : ℕ × ℕ). s.0 ≤ t.0) (λ (s : ℕ × ℕ). s.0 ≤ b) (λ s less. omega (arith, le, less, same)) (carried forwards unit n t.0) (before t.0))
        (stand_in forwards n) (stands_below forwards falling n)))
    cases (inr other) before = subst (λ v. All (λ (t : ℕ × ℕ). t.0 ≤ b) v) (sym (carried_else forwards unit n b other)) (before b)
