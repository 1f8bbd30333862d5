-- Ids by reach.
use Rattle.std.proofs.Common.{◌≡◌, ◌≢◌, ℕ, suc, ◌+◌, ◌<◌, ◌≤◌, ◌⊎◌, inl, inr, false, true, Some, None, List, [], ◌∷◌, length, take, drop, get_or, ltb, refl, sym, ap, subst, ◌∙◌, arith, cond, ne_eqb}
use Rattle.std.specs.Prelude.{Option, Bool, All, nat_eq, count_by, sum_by, slice_get}
use Rattle.std.specs.List.{AllWithin, AllZip}
use Rattle.std.specs.List.Sorted.{IsPartitionedBy}
use Rattle.std.proofs.lemmas.Bool.{cases_eq, ltb-true, lt-ltb, cond-false}
use Rattle.std.proofs.lemmas.List.{length-take, get_or-take}
use Rattle.std.proofs.lemmas.Option.{slice_get-get_or}
use Rattle.std.proofs.lemmas.List.Sums.{sum_by-cons, sum_by-take-drop, sum_by-le}
use Rattle.ve_theory.specs.Answers.{Row}
use Rattle.ve_theory.specs.Words.{Word, generator}
use Rattle.ve_theory.specs.Presentations.{Presentation, reach}
use Rattle.ve_theory.specs.Levels.{steps_to}
use Rattle.ve_lemmas.proofs.Weights.{weights_rise}
use Rattle.ve_table.specs.Tables.{ActionTable, presented, reach_at, word_at, of_live, live_words}
use Rattle.ve_table.specs.Sound.{IsSound}
use Rattle.ve_table.specs.Kept.{table_of, IsEntryOf, IsKept}
use Rattle.ve_table.specs.declared.table.Table.TheInside.{Inside}
use Rattle.ve_table.proofs.Entries.{one_entry_each}
use Rattle.ve_table.specs.declared.entry.Entry.{Entry}
use Rattle.ve_table.specs.Steps.{HasRisingReaches, live_steps}
use Rattle.ve_table.specs.Deaths.{is_live_entry, forward_of, forwards_of}
use Rattle.ve_table.proofs.Deaths.{live_death}

pub partitioned : (reach : ℕ) (xs : List Entry) → HasRisingReaches xs → IsPartitionedBy (λ (e : Entry). ltb e.reach reach) xs
partitioned reach xs rising i j d le within below =
    elim (cases_eq i j) [
      | inl same ↦ subst (λ n. ltb (get_or xs n d).reach reach ≡ true) (sym same) below
      | inr differ ↦ lt-ltb (get_or xs i d).reach reach (omega (arith, ltb-true (get_or xs j d).reach reach below, rising i j d (omega (arith, differ)) within))
    ]

pub live_steps-live : (weights : List ℕ) (reach : ℕ) (e : Entry) → e.death ≡ 0 → live_steps weights reach e ≡ count_by (λ step. nat_eq (e.reach + step) reach) weights
live_steps-live weights reach e live = ap (λ n. cond (nat_eq n 0) (count_by (λ step. nat_eq (e.reach + step) reach) weights) 0) live

pub live_steps-dead : (weights : List ℕ) (reach : ℕ) (e : Entry) → e.death ≢ 0 → live_steps weights reach e ≡ 0
live_steps-dead weights reach e dead = cond-false (nat_eq e.death 0) (count_by (λ step. nat_eq (e.reach + step) reach) weights) 0 (ne_eqb e.death 0 dead)

-- ids without steps

pub no_count : (p : ℕ → Bool) (xs : List ℕ) → All (λ x. p x ≡ false) xs → count_by p xs ≡ 0
no_count p xs none =
    let all : All (λ x. cond (p x) 1 0 ≤ 0) xs = λ k d lt. let off = cond-false {A = ℕ} (p (get_or xs k d)) 1 0 (none k d lt) in omega (arith, off) in
    omega (arith, sum_by-le (λ x. cond (p x) 1 0) 0 xs all)

zero_either : (b : Bool) (n : ℕ) → n ≡ 0 → cond b n 0 ≡ 0
zero_either true n none = none
zero_either false n none = refl

-- an id that no letter takes so far has no steps
pub no_steps : (weights : List ℕ) (greatest reach : ℕ) (e : Entry) → All (λ s. s ≤ greatest) weights → e.reach + greatest < reach → live_steps weights reach e ≡ 0
no_steps weights greatest reach e within short =
    zero_either (is_live_entry e) _
    (no_count (λ step. nat_eq (e.reach + step) reach) weights
    (λ k d lt. ne_eqb (e.reach + get_or weights k d) reach (λ same. let le = within k d lt in omega (arith, short, same, le))))

pub steps_from : (weights : List ℕ) (greatest reach first : ℕ) (entries : List Entry) → All (λ s. s ≤ greatest) weights → AllWithin (λ (e : Entry). e.reach + greatest < reach) entries 0 first
    → first ≤ length entries → sum_by (live_steps weights reach) (drop first entries) ≡ sum_by (live_steps weights reach) entries
steps_from weights greatest reach first entries within short bound =
    let none : All (λ e. live_steps weights reach e ≤ 0) (take first entries) =
    λ k d lt.
    let in' : k < first = omega (arith, lt, length-take first entries) in
    let here = get_or-take first entries k d in' in
    let zero_here = no_steps weights greatest reach (get_or (take first entries) k d) within (rw here (short k d (omega arith) in')) in
    omega (arith, zero_here) in
    omega (arith, sum_by-take-drop (live_steps weights reach) entries first, sum_by-le (live_steps weights reach) 0 (take first entries) none)

-- live ids and their words

pub option_cases : {X : Type 0} (o : Option X) → (o ≡ None) ⊎ ((x : X) × (o ≡ Some x))
option_cases None = inl refl
option_cases (Some x) = inr (x, refl)

pub of_live-none : {X : Type 0} (f : Option Row) (fs : List (Option Row)) (x : X) (xs : List X) → f ≡ None → of_live (f ∷ fs) (x ∷ xs) ≡ x ∷ of_live fs xs
unfolding of_live
of_live-none f fs x xs none = rw none refl

pub of_live-some : {X : Type 0} (f : Option Row) (fs : List (Option Row)) (x : X) (xs : List X) (v : Row) → f ≡ Some v → of_live (f ∷ fs) (x ∷ xs) ≡ of_live fs xs
unfolding of_live
of_live-some f fs x xs v some = rw some refl

pub of_live-nil : {X : Type 0} (xs : List X) → of_live [] xs ≡ []
unfolding of_live
of_live-nil xs = refl

pub sum_live : (P : Presentation) (fs : List Row) (k : ℕ) (es : List Entry) (ws : List Word) → AllZip (λ (e : Entry) w. e.reach ≡ reach P w) es ws
    → sum_by (live_steps P.weights k) es ≡ sum_by (steps_to P k) (of_live (forwards_of fs es) ws)
sum_live P fs k [] [] zipped = ap (λ l. sum_by (steps_to P k) l) (sym (of_live-nil []))
sum_live P fs k [] (w ∷ ws) zipped = absurd zipped
sum_live P fs k (e ∷ es) [] zipped = absurd zipped
sum_live P fs k (e ∷ es) (w ∷ ws) zipped =
    let rest = sum_live P fs k es ws zipped.1 in
    let left = sum_by-cons (live_steps P.weights k) e es in
    elim (option_cases (forward_of fs e.death)) [
      | inl none ↦
          let right = ap (λ l. sum_by (steps_to P k) l) (of_live-none (forward_of fs e.death) (forwards_of fs es) w ws none) in
          let more = sum_by-cons (steps_to P k) w (of_live (forwards_of fs es) ws) in
          let live = live_steps-live P.weights k e (live_death fs e.death none) in
          let same : count_by (λ step. nat_eq (e.reach + step) k) P.weights ≡ steps_to P k w = ap (λ r. count_by (λ step. nat_eq (r + step) k) P.weights) zipped.0 in
          left ∙ omega (arith, rest, live, same, more) ∙ sym right
      | inr some ↦
          let right = ap (λ l. sum_by (steps_to P k) l) (of_live-some (forward_of fs e.death) (forwards_of fs es) w ws some.0 some.1) in
          let dead = live_steps-dead P.weights k e (λ live. some_not_none some.0 (sym some.1 ∙ ap (forward_of fs) live)) in
          left ∙ omega (arith, rest, dead) ∙ sym right
    ]
  where
    some_not_none : (v : Row) → Some v ≡ None → ⊥
    some_not_none v bad = cc

pub zipped : {X Y : Type 0} (R : X → Y → Type 0) (xs : List X) (ys : List Y) (d : Y) → length xs ≡ length ys → ((b : ℕ) (x : X) → slice_get xs b ≡ Some x → R x (get_or ys b d)) → AllZip R xs ys
zipped R [] [] d same each = tt
zipped R [] (y ∷ ys) d same each = absurd (omega (arith, same))
zipped R (x ∷ xs) [] d same each = absurd (omega (arith, same))
zipped R (x ∷ xs) (y ∷ ys) d same each = (each 0 x refl, zipped R xs ys d (omega (arith, same)) (λ b x found. each (suc b) x found))

-- reaches rise with the order of words

pub rising_entries : (T : ActionTable) (es : List Entry) → IsSound T → length es ≡ length T.words → ((b : ℕ) (e : Entry) → slice_get es b ≡ Some e → IsEntryOf T b e) → HasRisingReaches es
rising_entries T es sound count each i j d lt within =
    let first = each i (get_or es i d) (slice_get-get_or es i d (omega arith)) in
    let second = each j (get_or es j d) (slice_get-get_or es j d within) in
    let order = weights_rise (presented T).weights (word_at T i) (word_at T j) (sound.rising i j (generator 0) lt (omega (arith, within, count))) in
    omega (arith, order, first.own_reach, second.own_reach)

pub rising_reaches : (t : Inside) → IsKept t → HasRisingReaches t.entries.items
rising_reaches t kept = rising_entries (table_of t) t.entries.items kept.sound (one_entry_each t kept) kept.entries

-- the steps of all entries are those of the live words
pub steps_of_words : (t : Inside) → IsKept t → (k : ℕ) → sum_by (live_steps t.presentation.presentation.weights k) t.entries.items ≡ sum_by (steps_to t.presentation.presentation k) (live_words (table_of t))
steps_of_words t kept k =
    sum_live t.presentation.presentation t.forwards.items k t.entries.items (table_of t).words
    (zipped (λ (e : Entry) w. e.reach ≡ reach t.presentation.presentation w) t.entries.items (table_of t).words (generator 0) (one_entry_each t kept) (λ b e found. (kept.entries b e found).own_reach))

-- an entry's reach is its word's
pub reach_here : (t : Inside) → IsKept t → (b : ℕ) (d : Entry) → b < length t.entries.items → (get_or t.entries.items b d).reach ≡ reach_at (table_of t) b
reach_here t kept b d lt = (kept.entries b (get_or t.entries.items b d) (slice_get-get_or t.entries.items b d lt)).own_reach
