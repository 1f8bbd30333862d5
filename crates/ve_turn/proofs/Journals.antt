-- What a move of one seat leaves of the entries and desks of others.
use Rattle.std.proofs.Common.{◌≡◌, ◌≢◌, ◌==◌, ℕ, zero, suc, get_or, map, max, ⊎_elim, eq-eqb, ◌<◌, ◌≤◌, false, cond, List, [], ◌∷◌, ◌++◌, length, drop, sym, refl, ap, ◌∙◌, subst, arith, ne_eqb, append_assoc, append-nil}
use Rattle.std.specs.List.{All, Contains}
use Rattle.std.proofs.lemmas.Bool.{cases_lt, lt-ltb, le-ltb}
use mathlib.Core.Logic.{dite}
use native.Mathlib.Decide.{ℕ_discrete}
use Rattle.ve_turn.specs.declared.view.Place.{Place}
use Rattle.ve_turn.specs.Knows.{desk_in}
use Rattle.std.proofs.Math.Seq.{drop-append_seam}
use Rattle.std.proofs.lemmas.List.Elements.{filter-append, All-head, All-tail}
use Rattle.ve_turn.specs.Journal.{entries_of, BeginsWith, longer_of, GoesOn}

module _ {E : Type 0} where
  pub begins_more : (whole all first : List E) → BeginsWith whole all → BeginsWith all first → BeginsWith whole first
  begins_more whole all first w a = (a.0 ++ w.0, w.1 ∙ (ap (λ l. l ++ w.0) a.1 ∙ append_assoc first a.0 w.0))

  module _ (seat_of : E → ℕ) where
    pub entries-append : (seat : ℕ) (a b : List E) → entries_of seat_of seat (a ++ b) ≡ entries_of seat_of seat a ++ entries_of seat_of seat b
    entries-append seat a b = filter-append (λ e. seat_of e == seat) a b

    pub none_of : (seat other : ℕ) (l : List E) → seat ≢ other → All (λ e. seat_of e ≡ other) l → entries_of seat_of seat l ≡ []
    none_of seat other [] differ all = refl
    none_of seat other (x ∷ xs) differ all =
        let is : seat_of x ≡ other = All-head (λ e. seat_of e ≡ other) x xs all in
        let miss : (seat_of x == seat) ≡ false = ne_eqb (seat_of x) seat (λ e. differ (sym e ∙ is)) in
        ap (λ b. cond b (x ∷ entries_of seat_of seat xs) (entries_of seat_of seat xs)) miss ∙ none_of seat other xs differ (All-tail (λ e. seat_of e ≡ other) x xs all)

module _ {T O E D : Type 0} (opening : T → O) (journal : T → List E) (seat_of : E → ℕ) (desk : T → ℕ → D) (seat : ℕ) (before after : T) (g : GoesOn opening journal seat_of desk seat before after) where
  pub still_begins : (first : List E) → BeginsWith (journal before) first → BeginsWith (journal after) first
  still_begins first b = begins_more (journal after) (journal before) first (g.added, g.longer) b

  pub same_entries : (other : ℕ) → other ≢ seat → entries_of seat_of other (journal after) ≡ entries_of seat_of other (journal before)
  same_entries other differ =
      ap (entries_of seat_of other) g.longer ∙ (entries-append seat_of other (journal before) g.added
      ∙ (ap (λ l. entries_of seat_of other (journal before) ++ l) (none_of seat_of other seat g.added differ g.added_by_seat) ∙ append-nil (entries_of seat_of other (journal before))))

  pub new_entries : drop (length (journal before)) (journal after) ≡ g.added
  new_entries = ap (drop (length (journal before))) g.longer ∙ drop-append_seam (journal before) g.added

  -- the entries of any seat that stood in a list still stand there, with the new ones
  pub more_entries : (other : ℕ) (own : List E) → entries_of seat_of other (journal before) ≡ entries_of seat_of other own
      → entries_of seat_of other (journal after) ≡ entries_of seat_of other (own ++ drop (length (journal before)) (journal after))
  more_entries other own same =
      ap (entries_of seat_of other) g.longer ∙ (entries-append seat_of other (journal before) g.added ∙ (ap (λ l. l ++ entries_of seat_of other g.added) same
      ∙ (sym (entries-append seat_of other own g.added) ∙ ap (λ l. entries_of seat_of other (own ++ l)) (sym new_entries))))

  pub no_entries : (other : ℕ) (own : List E) → other ≢ seat → entries_of seat_of other own ≡ [] → entries_of seat_of other (own ++ drop (length (journal before)) (journal after)) ≡ []
  no_entries other own differ none = ap (λ l. entries_of seat_of other (own ++ l)) new_entries ∙ (entries-append seat_of other own g.added
      ∙ (λ i. none i ++ none_of seat_of other seat g.added differ g.added_by_seat i))

module _ {E : Type 0} where
  prefix_of : (a b m n : List E) → a ++ m ≡ b ++ n → length a ≤ length b → BeginsWith b a
  prefix_of [] b m n e le = (b, refl)
  prefix_of (x ∷ xs) [] m n e le = absurd (omega arith)
  prefix_of (x ∷ xs) (y ∷ ys) m n e le = let head : x ≡ y = cc in let tail : xs ++ m ≡ ys ++ n = cc in let p = prefix_of xs ys m n tail (omega arith) in (p.0, λ i. sym head i ∷ p.1 i)

  -- of two beginnings of a list, the longer begins with both
  pub longer_begins : (whole a b : List E) → BeginsWith whole a → BeginsWith whole b → BeginsWith whole (longer_of a b) × BeginsWith (longer_of a b) a × BeginsWith (longer_of a b) b
  longer_begins whole a b p q = ⊎_elim
      (λ less. subst (λ c. BeginsWith whole (cond c b a) × BeginsWith (cond c b a) a × BeginsWith (cond c b a) b) (sym (lt-ltb (length a) (length b) less))
      (q, prefix_of a b p.0 q.0 (sym p.1 ∙ q.1) (omega arith), ([], sym (append-nil b))))
      (λ more. subst (λ c. BeginsWith whole (cond c b a) × BeginsWith (cond c b a) a × BeginsWith (cond c b a) b) (sym (le-ltb (length a) (length b) more))
      (p, ([], sym (append-nil a)), prefix_of b a q.0 p.0 (sym q.1 ∙ p.1) more))
      (cases_lt (length a) (length b))

  pub length-longer_of : (a b : List E) → max (length a) (length b) ≡ length (longer_of a b)
  length-longer_of a b = ⊎_elim
      (λ less. subst (λ c. max (length a) (length b) ≡ length (cond c b a)) (sym (lt-ltb (length a) (length b) less)) (omega arith))
      (λ more. subst (λ c. max (length a) (length b) ≡ length (cond c b a)) (sym (le-ltb (length a) (length b) more)) (omega arith))
      (cases_lt (length a) (length b))

module _ {D : Type 0} (empty : D) where
  pub desk_in_none : (places : List (Place D)) (seat : ℕ) → All (λ (p : Place D). p.seat ≢ seat) places → desk_in empty places seat ≡ empty
  desk_in_none [] seat none = refl
  desk_in_none (p ∷ ps) seat none =
      ap (λ b. cond b p.desk (desk_in empty ps seat)) (ne_eqb p.seat seat (All-head (λ (q : Place D). q.seat ≢ seat) p ps none)) ∙ desk_in_none ps seat (All-tail (λ (q : Place D). q.seat ≢ seat) p ps none)

  -- the desk that a seat among these has, where each has the desk that f gives
  pub desk_in_some : (f : ℕ → D) (places : List (Place D)) (seat : ℕ) → All (λ (p : Place D). f p.seat ≡ p.desk) places → Contains (map (λ (p : Place D). p.seat) places) seat → f seat ≡ desk_in empty places seat
  desk_in_some f [] seat all has = let l = has.1 in absurd (omega arith)
  desk_in_some f (p ∷ ps) seat all has = dite (ℕ_discrete p.seat seat)
      (λ e. ap f (sym e) ∙ (All-head (λ (q : Place D). f q.seat ≡ q.desk) p ps all ∙ ap (λ b. cond b p.desk (desk_in empty ps seat)) (sym (eq-eqb p.seat seat e))))
      (λ n. desk_in_some f ps seat (All-tail (λ (q : Place D). f q.seat ≡ q.desk) p ps all) (rest_has n has.0 has.1 has.2) ∙ ap (λ b. cond b p.desk (desk_in empty ps seat)) (sym (ne_eqb p.seat seat n)))
    where
      rest_has : p.seat ≢ seat → (k : ℕ) → k < length (p.seat ∷ map (λ (q : Place D). q.seat) ps) → get_or (p.seat ∷ map (λ (q : Place D). q.seat) ps) k seat ≡ seat → Contains (map (λ (q : Place D). q.seat) ps) seat
      rest_has n zero l e = absurd (n e)
      rest_has n (suc k) l e = (k, omega arith, e)
