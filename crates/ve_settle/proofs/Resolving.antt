-- Terms in which dead ids are replaced, from the greatest id down.
use Rattle.std.proofs.Common.{◌≡◌, ℕ, ◌+◌, ◌<◌, ◌≤◌, Bool, true, ltb, Some, [], ◌∷◌, length, All, IsTrue, arith}
use Rattle.std.specs.Prelude.{slice_get}
use Rattle.std.proofs.lemmas.Bool.{ltb-true, lt-ltb}
use Rattle.std.proofs.lemmas.List.Elements.{All-nil, All-cons, All-head, All-tail, All-weaker}
use Rattle.ve_theory.specs.Combinations.{Combination, IsReduced}
use Rattle.ve_theory.specs.Presentations.{greatest_of}
use Rattle.ve_theory.specs.Answers.{Row, IsRow}
use Rattle.ve_theory.proofs.Sums.{SameWeights-refl}
use Rattle.ve_vec.specs.Vectors.{AllIds}
use Rattle.ve_table.specs.Tables.{ActionTable, presented}
use Rattle.ve_table.specs.Sound.{IsSound, HasLiveIds}
use Rattle.ve_machine.specs.Forwards.{IsResolved}
use Rattle.ve_machine.proofs.Forwardings.{positive_prime, nothing_forwarded}
use Rattle.ve_machine.proofs.ResolvedVectors.{live_within}

-- tests of ids

pub tested_below : (n : ℕ) (v : Row) → All (λ t. t.0 < n) v → AllIds (λ k. ltb k n) v
tested_below n v below = All-weaker (λ (t : ℕ × ℕ). t.0 < n) (λ (t : ℕ × ℕ). ltb t.0 n ≡ true) (λ t less. lt-ltb t.0 n less) v below

pub below_by_test : (n : ℕ) (v : Row) → AllIds (λ k. ltb k n) v → All (λ t. t.0 < n) v
below_by_test n v tested = All-weaker (λ (t : ℕ × ℕ). ltb t.0 n ≡ true) (λ (t : ℕ × ℕ). t.0 < n) (λ t is. ltb-true t.0 n is) v tested

-- where an id passes, the ids of its forward do
abbrev pub IsKept : ActionTable → (ℕ → Bool) → Type 0
IsKept T among = (b : ℕ) (f : Row) → slice_get T.forwards b ≡ Some (Some f) → IsTrue (among b) → AllIds among f

pub bound_kept : (T : ActionTable) → IsSound T → (n : ℕ) → IsKept T (λ k. ltb k n)
bound_kept T sound n b f dead passes =
    let within : b < n = ltb-true b n passes in
    tested_below n f (All-weaker (λ (t : ℕ × ℕ). t.0 < b) (λ (t : ℕ × ℕ). t.0 < n) (λ t less. omega (arith, less, within)) f (sound.forwards b f dead).below)

-- the bound on the ids of a heap
abbrev pub ceiling : Combination ℕ → ℕ
ceiling v = greatest_of (λ t. t.0 + 1) v

under : (n : ℕ) (v : Combination ℕ) → ceiling v ≤ n → All (λ t. t.0 < n) v
unfolding greatest_of
under n [] le = All-nil (λ (s : ℕ × ℕ). s.0 < n)
under n (t ∷ v) le = All-cons (λ (s : ℕ × ℕ). s.0 < n) t v (omega (arith, le)) (under n v (omega (arith, le)))

under_ceiling : (v : Combination ℕ) → AllIds (λ k. ltb k (ceiling v)) v
under_ceiling v = tested_below (ceiling v) v (under (ceiling v) v (omega arith))

ceiling_below : (i : ℕ) (v : Combination ℕ) → All (λ t. t.0 < i) v → ceiling v ≤ i
unfolding greatest_of
ceiling_below i [] below = omega arith
ceiling_below i (t ∷ v) below = omega (arith, All-head (λ (s : ℕ × ℕ). s.0 < i) t v below, ceiling_below i v (All-tail (λ (s : ℕ × ℕ). s.0 < i) t v below))

-- an id is taken, and all that is left is below it
pub ceiling_falls : (i : ℕ) (old new : Combination ℕ) → ((among : ℕ → Bool) → AllIds among old → IsTrue (among i)) → All (λ t. t.0 < i) new → ceiling new < ceiling old
ceiling_falls i old new taken below = omega (arith, ceiling_below i new below, ltb-true i (ceiling old) (taken (λ k. ltb k (ceiling old)) (under_ceiling old)))

-- the end

pub live_row : (T : ActionTable) → IsSound T → (w : Row) → IsReduced ◌<◌ (presented T).prime w → HasLiveIds T w → IsRow (presented T).prime (length T.words) w
live_row T sound w reduced live = (reduced, live_within T sound w live)

pub bounded : (T : ActionTable) → IsSound T → (v w : Row) → ((n : ℕ) → IsKept T (λ k. ltb k n) → AllIds (λ k. ltb k n) v → AllIds (λ k. ltb k n) w)
    → (bound : ℕ) → All (λ t. t.0 ≤ bound) v → All (λ t. t.0 ≤ bound) w
bounded T sound v w kept bound all =
    All-weaker (λ (t : ℕ × ℕ). t.0 < bound + 1) (λ (t : ℕ × ℕ). t.0 ≤ bound) (λ t less. omega (arith, less)) w
    (below_by_test (bound + 1) w (kept (bound + 1) (bound_kept T sound (bound + 1))
    (tested_below (bound + 1) v (All-weaker (λ (t : ℕ × ℕ). t.0 ≤ bound) (λ (t : ℕ × ℕ). t.0 < bound + 1) (λ t le. omega (arith, le)) v all))))

-- a vector of live ids is its own
pub live_resolved : (T : ActionTable) → IsSound T → (v : Row) → IsReduced ◌<◌ (presented T).prime v → HasLiveIds T v → IsResolved (presented T).prime T.forwards v v
live_resolved T sound v reduced live = record {
  reduced = reduced;
  live = live;
  forwarding = nothing_forwarded (presented T).prime T.forwards v v (positive_prime T sound) (SameWeights-refl (presented T).prime v);
}
