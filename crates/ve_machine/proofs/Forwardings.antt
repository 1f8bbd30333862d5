-- The vectors that stand for ids, and combinations of ids, each less the vector that stands for it.
use Rattle.std.proofs.Common.{◌≡◌, ◌≢◌, ℕ, ◌-◌, ◌<◌, ◌≤◌, inl, inr, cond, Some, None, nat_eq, [], ◌∷◌, ◌++◌, length, All, refl, sym, ap, subst, ◌∙◌, append_assoc, arith, eq-eqb, ne_eqb}
use Rattle.std.proofs.Math.ListN.{set}
use Rattle.std.proofs.lemmas.Bool.{cases_eq, cond-true, cond-false}
use Rattle.std.proofs.lemmas.List.{get_or-set_same, get_or-set_other}
use Rattle.std.specs.Prelude.{Option, slice_get, slice_index_or, unwrap_or}
use Rattle.std.proofs.lemmas.Option.{unwrap_or-slice_get, slice_get_within}
use Rattle.std.proofs.lemmas.List.Elements.{All-head, All-tail, All-weaker}
use Rattle.ve_theory.specs.Combinations.{Combination, unit, scaled, difference, extended}
use Rattle.ve_theory.specs.Answers.{Row}
use Rattle.ve_theory.proofs.Sums.{weigh, weigh-append, weigh-scaled, SameWeights, SameWeights-refl, SameWeights-sym, SameWeights-trans, SameWeights-append, SameWeights-scaled, SameWeights-difference, SameWeights-extended_by, SameWeights_of, extended-append, extended-scaled, extended-unit, extended-by_units, extended-extended, differences-append, differences-extended, difference-nil, difference_vanishes, prime-large, Alike_from_weights, weights_from_Alike, Decides-nat_eq}
use Rattle.ve_theory.proofs.DerivedElements.{SameWeights-equal}
use Rattle.ve_theory.proofs.Remainders.{All-unit}
use Rattle.ve_table.specs.Tables.{ActionTable, presented}
use Rattle.ve_table.specs.Sound.{IsSound}
use Rattle.ve_machine.specs.Forwards.{Forwards, stand_in, IsForwarding, AreLive, IsDrawnFrom}

-- what stands for an id

stand_in_of : (forwards : Forwards) (b : ℕ) (o : Option (Option Row)) → slice_get forwards b ≡ o → stand_in forwards b ≡ unwrap_or (unwrap_or o None) (unit b)
stand_in_of forwards b o is = ap (λ f. unwrap_or f (unit b)) (sym (unwrap_or-slice_get forwards b None) ∙ ap (λ o. unwrap_or o None) is)

pub live_stands : (forwards : Forwards) (b : ℕ) → slice_get forwards b ≡ Some None → stand_in forwards b ≡ unit b
live_stands forwards b live = stand_in_of forwards b (Some None) live

pub dead_stands : (forwards : Forwards) (b : ℕ) (f : Row) → slice_get forwards b ≡ Some (Some f) → stand_in forwards b ≡ f
dead_stands forwards b f dead = stand_in_of forwards b (Some (Some f)) dead

pub past_stands : (forwards : Forwards) (b : ℕ) → slice_get forwards b ≡ None → stand_in forwards b ≡ unit b
past_stands forwards b past = stand_in_of forwards b None past

pub positive_prime : (T : ActionTable) → IsSound T → 0 < (presented T).prime
positive_prime T sound = omega (arith, prime-large (presented T).prime sound.valid.presentation.field)

-- what holds of the id alone, and of its forward, holds of what stands for it
pub stands_by : (Q : Row → Type 0) (forwards : Forwards) (b : ℕ) → Q (unit b) → ((f : Row) → slice_get forwards b ≡ Some (Some f) → Q f) → Q (stand_in forwards b)
stands_by Q forwards b itself forward = cases (slice_get forwards b) refl
  where
    cases : (o : Option (Option Row)) → slice_get forwards b ≡ o → Q (stand_in forwards b)
    cases None is = subst Q (sym (past_stands forwards b is)) itself
    cases (Some None) is = subst Q (sym (live_stands forwards b is)) itself
    cases (Some (Some f)) is = subst Q (sym (dead_stands forwards b f is)) (forward f is)

-- a forward has lower ids alone
abbrev pub AreFalling : Forwards → Type 0
AreFalling forwards = (b : ℕ) (f : Row) → slice_get forwards b ≡ Some (Some f) → All (λ t. t.0 < b) f

pub are_falling : (T : ActionTable) → IsSound T → AreFalling T.forwards
are_falling T sound b f is = (sound.forwards b f is).below

-- no id of it is above b
pub stands_below : (forwards : Forwards) → AreFalling forwards → (b : ℕ) → All (λ t. t.0 ≤ b) (stand_in forwards b)
stands_below forwards falling b =
    stands_by (λ v. All (λ (t : ℕ × ℕ). t.0 ≤ b) v) forwards b (All-unit (λ c. c ≤ b) b (omega arith))
    (λ f is. All-weaker (λ (t : ℕ × ℕ). t.0 < b) (λ (t : ℕ × ℕ). t.0 ≤ b) (λ t below. omega (arith, below)) f (falling b f is))

-- a vector of live ids stays as it is
pub live_unchanged : (p : ℕ) (forwards : Forwards) (v : Row) → AreLive forwards v → SameWeights p v (extended (stand_in forwards) v)
live_unchanged p forwards v live =
    SameWeights-trans (SameWeights-sym (extended-by_units p v))
    (SameWeights-extended_by unit (stand_in forwards) v
    (All-weaker (λ (t : ℕ × ℕ). slice_get forwards t.0 ≡ Some None) (λ (t : ℕ × ℕ). SameWeights p (unit t.0) (stand_in forwards t.0)) (λ t is. SameWeights_of (sym (live_stands forwards t.0 is))) v live))

-- forwardings by weights

-- an id less what stands for it
abbrev pub less : ℕ → Forwards → ℕ → Row
less p forwards b = difference p (unit b) (stand_in forwards b)

pub forwarding_shown : (p : ℕ) (forwards : Forwards) (v : Row) (forwarding : IsForwarding p forwards v) → SameWeights p v (extended (less p forwards) forwarding.by)
forwarding_shown p forwards v forwarding = weights_from_Alike nat_eq Decides-nat_eq p v (extended (less p forwards) forwarding.by) forwarding.sum

pub IsForwarding-by : (p : ℕ) (forwards : Forwards) (v by : Row) → SameWeights p v (extended (less p forwards) by) → IsForwarding p forwards v
IsForwarding-by p forwards v by same = record { by = by; sum = Alike_from_weights nat_eq same }

pub IsForwarding-alike : (p : ℕ) (forwards : Forwards) {u v : Row} → SameWeights p u v → IsForwarding p forwards u → IsForwarding p forwards v
IsForwarding-alike p forwards {u} {v} same forwarding =
    IsForwarding-by p forwards v forwarding.by (SameWeights-trans (SameWeights-sym same) (forwarding_shown p forwards u forwarding))

-- they are a space

pub IsForwarding-nothing : (p : ℕ) (forwards : Forwards) → IsForwarding p forwards []
unfolding extended
IsForwarding-nothing p forwards = IsForwarding-by p forwards [] [] (SameWeights-refl p [])

pub IsForwarding-append : (p : ℕ) (forwards : Forwards) {u v : Row} → IsForwarding p forwards u → IsForwarding p forwards v → IsForwarding p forwards (u ++ v)
IsForwarding-append p forwards {u} {v} one other =
    IsForwarding-by p forwards (u ++ v) (one.by ++ other.by)
    (SameWeights-trans (SameWeights-append (forwarding_shown p forwards u one) (forwarding_shown p forwards v other))
    (SameWeights_of (sym (extended-append (less p forwards) one.by other.by))))

pub IsForwarding-scaled : (p : ℕ) (forwards : Forwards) (c : ℕ) {v : Row} → IsForwarding p forwards v → IsForwarding p forwards (scaled c v)
IsForwarding-scaled p forwards c {v} one =
    IsForwarding-by p forwards (scaled c v) (scaled c one.by)
    (SameWeights-trans (SameWeights-scaled c (forwarding_shown p forwards v one)) (SameWeights-sym (extended-scaled p (less p forwards) c one.by)))

pub IsForwarding-difference : (p : ℕ) (forwards : Forwards) {u v : Row} → IsForwarding p forwards u → IsForwarding p forwards v → IsForwarding p forwards (difference p u v)
IsForwarding-difference p forwards one other = IsForwarding-append p forwards one (IsForwarding-scaled p forwards (p - 1) other)

-- a combination of forwardings
pub IsForwarding-extended : {K : Type 0} (p : ℕ) (forwards : Forwards) (f : K → Row) (v : Combination K) → All (λ t. IsForwarding p forwards (f t.0)) v → IsForwarding p forwards (extended f v)
unfolding extended
IsForwarding-extended p forwards f [] all = IsForwarding-nothing p forwards
IsForwarding-extended {K} p forwards f (t ∷ v) all =
    IsForwarding-append p forwards (IsForwarding-scaled p forwards t.1 (All-head (λ (s : K × ℕ). IsForwarding p forwards (f s.0)) t v all))
    (IsForwarding-extended p forwards f v (All-tail (λ (s : K × ℕ). IsForwarding p forwards (f s.0)) t v all))

-- a vector less one like it
pub nothing_forwarded : (p : ℕ) (forwards : Forwards) (v w : Row) → 0 < p → SameWeights p v w → IsForwarding p forwards (difference p v w)
nothing_forwarded p forwards v w positive same =
    IsForwarding-alike p forwards (SameWeights-sym (difference_vanishes p v w positive same)) (IsForwarding-nothing p forwards)

-- by way of v
pub forwarded_on : (p : ℕ) (forwards : Forwards) (u v w : Row) → 0 < p → IsForwarding p forwards (difference p u v) → IsForwarding p forwards (difference p v w) → IsForwarding p forwards (difference p u w)
forwarded_on p forwards u v w positive one other =
    IsForwarding-alike p forwards (differences-append p u v w positive) (IsForwarding-append p forwards one other)

pub IsForwarding-chained : (p : ℕ) (forwards : Forwards) (u v : Row) → 0 < p → IsForwarding p forwards (difference p u v) → IsForwarding p forwards v → IsForwarding p forwards u
IsForwarding-chained p forwards u v positive one other =
    IsForwarding-alike p forwards (difference-nil p u)
    (forwarded_on p forwards u v [] positive one (IsForwarding-alike p forwards (SameWeights-sym (difference-nil p v)) other))

-- what is replaced

pub id_less_stand_in : (p : ℕ) (forwards : Forwards) (b : ℕ) → IsForwarding p forwards (less p forwards b)
id_less_stand_in p forwards b = IsForwarding-by p forwards (less p forwards b) (unit b) (SameWeights-sym (extended-unit p (less p forwards) b))

-- a vector, less the vector with each id replaced
pub vector_less_replaced : (p : ℕ) (forwards : Forwards) (f : ℕ → Row) (v : Row) → All (λ t. IsForwarding p forwards (difference p (unit t.0) (f t.0))) v → IsForwarding p forwards (difference p v (extended f v))
vector_less_replaced p forwards f v all =
    IsForwarding-alike p forwards
    (SameWeights-trans (differences-extended p unit f v) (SameWeights-difference (extended-by_units p v) (SameWeights-refl p (extended f v))))
    (IsForwarding-extended p forwards (λ b. difference p (unit b) (f b)) v all)

pub vector_less_stand_ins : (p : ℕ) (forwards : Forwards) (v : Row) → IsForwarding p forwards (difference p v (extended (stand_in forwards) v))
vector_less_stand_ins p forwards v = vector_less_replaced p forwards (stand_in forwards) v (λ k t inside. id_less_stand_in p forwards (slice_index_or v k t).0)

-- what was taken off is added
added_back : (p : ℕ) (u v : Row) → 0 < p → SameWeights p (difference p u v ++ v) u
added_back p u v positive =
    SameWeights-trans (SameWeights-append (SameWeights-refl p (difference p u v)) (SameWeights-sym (difference-nil p v)))
    (SameWeights-trans (differences-append p u v [] positive) (difference-nil p u))

scaled_together : (p c : ℕ) (u v : Row) → SameWeights p (scaled c u ++ scaled c v) (scaled c (u ++ v))
scaled_together p c u v = SameWeights-equal (λ h. simp (weigh-append, weigh-scaled, weigh-append) (omega arith))

scaled_unit : (p c b : ℕ) → SameWeights p (scaled c (unit b)) ((b, c) ∷ [])
unfolding weigh
scaled_unit p c b = SameWeights-equal (λ h. weigh-scaled h c (unit b) ∙ omega arith)

-- A live id dies: it was less itself before, and so it may be left out of a combination.
module _ (p : ℕ) (forwards : Forwards) (b : ℕ) (f : Row) (positive : 0 < p) (live : slice_get forwards b ≡ Some None) where
  abbrev after : Forwards
  after = set forwards b (Some f)

  within : b < length forwards
  within = slice_get_within forwards b None live

  here : stand_in after b ≡ f
  here = ap (λ o. unwrap_or o (unit b)) (get_or-set_same forwards b (Some f) None within)

  elsewhere : (c : ℕ) → c ≢ b → stand_in after c ≡ stand_in forwards c
  elsewhere c other = ap (λ o. unwrap_or o (unit c)) (get_or-set_other forwards b c (Some f) None other)

  left_out : ℕ → Row
  left_out c = cond (nat_eq c b) [] (unit c)

  less_left_out : (c : ℕ) → SameWeights p (less p forwards c) (extended (less p after) (left_out c))
  unfolding left_out extended
  less_left_out c =
      elim (cases_eq c b) [
        | inl same ↦
            SameWeights-trans
            (difference_vanishes p (unit c) (stand_in forwards c) positive (SameWeights_of (sym (live_stands forwards c (subst (λ n. slice_get forwards n ≡ Some None) (sym same) live)))))
            (SameWeights_of (ap (extended (less p after)) (sym (cond-true (nat_eq c b) [] (unit c) (eq-eqb c b same)))))
        | inr other ↦
            SameWeights-trans
            (SameWeights_of (ap (difference p (unit c)) (sym (elsewhere c other))))
            (SameWeights-trans (SameWeights-sym (extended-unit p (less p after) c))
            (SameWeights_of (ap (extended (less p after)) (sym (cond-false (nat_eq c b) [] (unit c) (ne_eqb c b other))))))
      ]

  pub stays_forwarding : (v : Row) → IsForwarding p forwards v → IsForwarding p after v
  stays_forwarding v forwarding =
      IsForwarding-by p after v (extended left_out forwarding.by)
      (SameWeights-trans (forwarding_shown p forwards v forwarding)
      (SameWeights-trans
      (SameWeights-extended_by (less p forwards) (λ c. extended (less p after) (left_out c)) forwarding.by (λ k t inside. less_left_out (slice_index_or forwarding.by k t).0))
      (SameWeights-sym (extended-extended p (less p after) left_out forwarding.by))))

  -- the vector that it dies of
  pub drawn_forwarding : (v : Row) → IsDrawnFrom p v b f → IsForwarding p after v
  unfolding extended
  drawn_forwarding v drawn =
      IsForwarding-alike p after (SameWeights-trans split (SameWeights_of (sym drawn.first)))
      (IsForwarding-append p after (IsForwarding-scaled p after drawn.coefficient (id_less_stand_in p after b)) (IsForwarding-alike p after (SameWeights-sym vanishes) (IsForwarding-nothing p after)))
    where
      vanishes : SameWeights p (scaled drawn.coefficient f ++ drawn.others) []
      vanishes = weights_from_Alike nat_eq Decides-nat_eq p (scaled drawn.coefficient f ++ drawn.others) [] drawn.sum

      split : SameWeights p (scaled drawn.coefficient (less p after b) ++ (scaled drawn.coefficient f ++ drawn.others)) ((b, drawn.coefficient) ∷ drawn.others)
      split =
          SameWeights-trans
          (SameWeights_of (ap (λ w. scaled drawn.coefficient (difference p (unit b) w) ++ (scaled drawn.coefficient f ++ drawn.others)) here ∙ sym (append_assoc (scaled drawn.coefficient (difference p (unit b) f)) (scaled drawn.coefficient f) drawn.others)))
          (SameWeights-append
          (SameWeights-trans (scaled_together p drawn.coefficient (difference p (unit b) f) f)
          (SameWeights-trans (SameWeights-scaled drawn.coefficient (added_back p (unit b) f positive)) (scaled_unit p drawn.coefficient b)))
          (SameWeights-refl p drawn.others))
