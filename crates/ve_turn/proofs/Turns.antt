-- The steps of a turn keep the rule of the table.
use Rattle.std.proofs.Common.{◌≡◌, ◌≢◌, ℕ, suc, ◌+◌, ◌-◌, ◌%◌, ◌^◌, ◌≤◌, Bool, true, false, List, [], ◌∷◌, ◌++◌, length, set, get_or, drop, sym, refl, ap, ◌∙◌, subst, ⊎_elim, eqb, eq-eqb, ne_eqb, arith, append-nil, Option, Some, None}
use Rattle.std.proofs.Math.Nat.{mod-add-mod}
use Rattle.std.proofs.lemmas.Bool.{cases_Bool}
use Rattle.std.proofs.lemmas.List.{set-get_or}
use Rattle.std.proofs.lemmas.List.Elements.{All-head, All-tail, All-cons}
use Rattle.std.specs.Bool.{MatchBool}
use Rattle.std.specs.List.{Contains}
use mathlib.Core.Option.{some, none}
use mathlib.Core.Logic.{dite}
use native.Mathlib.Decide.{ℕ_discrete}
use lib.ListN.{get_elem?}
use Rattle.atomic_table.specs.Table.{State, Me, step, Act, keeps, takes, gives, Valid, carried_after, stepped, Allows}
use Rattle.atomic_table.proofs.Lists.{one_turn, set_again, set_else}
use Rattle.ve_turn.specs.declared.journaled.Journaled.{Ghosts}
use Rattle.ve_turn.specs.declared.view.Knowledge.{Knowledge}
use Rattle.ve_turn.specs.declared.view.Place.{Place}
use Rattle.ve_turn.specs.declared.view.View.{View}
use Rattle.ve_turn.specs.declared.view.View.TheVariants.{Spent, Outside, Waiting, Inside, Meeting}
use Rattle.ve_turn.specs.Journal.{entries_of, GoesOn}
use Rattle.ve_turn.specs.Knows.{place, places_of, after_turn}
use Rattle.ve_turn.specs.Places.{known_or, met_or}
use Rattle.ve_turn.specs.Rule.{weight, tickets, IfLive, IsLive, seats_of, home_of, Agrees, Queues, Turning}
use Rattle.ve_turn.specs.Steps.{drawn, looked, moved_on, HasEntered, Meets}
use Rattle.ve_turn.proofs.Totals.{put, put_here, put_else, set_there, total_set, total_le, each_set, still_set, elsewhere}
use Rattle.ve_turn.proofs.Journals as journals

-- the word after one more is counted
counted : (a : ℕ) → (a % 2 ^ 64 + 1) % 2 ^ 64 ≡ (a + 1) % 2 ^ 64
counted a = mod-add-mod a (2 ^ 64) 1

pub by_test : {P Q : Type 0} (a b : ℕ) → (a ≡ b → P) → (a ≢ b → Q) → MatchBool (eqb a b) P Q
by_test {P} {Q} a b hit miss = dite (ℕ_discrete a b) (λ e. subst (λ t. MatchBool t P Q) (sym (eq-eqb a b e)) (hit e)) (λ n. subst (λ t. MatchBool t P Q) (sym (ne_eqb a b n)) (miss n))

abbrev pub value_or : {T : Type 0} → T → Option T → T
value_or x (Some y) = y
value_or x None = x

abbrev slot_or : {T : Type 0} → T → List (ℕ × Option T) → T
slot_or x [] = x
slot_or x (c ∷ cs) = value_or x c.1

module _ {T O E D : Type 0} where
  abbrev ticket_or : ℕ → View T O E D → ℕ
  ticket_or n (Waiting ticket k) = ticket
  ticket_or n v = n

  tickets_le_weight : (v : View T O E D) → tickets v ≤ weight v
  tickets_le_weight Spent = omega arith
  tickets_le_weight (Outside k) = omega arith
  tickets_le_weight (Waiting ticket k) = omega arith
  tickets_le_weight (Inside met k) = omega arith
  tickets_le_weight (Meeting seen k) = omega arith

module _ {T O E D : Type 0} (j : Ghosts T O E D) (seats : ℕ) where
  abbrev V : Type 0
  V = View T O E D

  abbrev K : Type 0
  K = Knowledge T O E D

  abbrev St : Type 0
  St = State (Option T) V

  abbrev M : Type 0
  M = Me (Option T) V

  abbrev Rule : St → Type 0
  Rule = Turning j seats

  -- no more tickets wait than there are seats
  few_wait : (s : St) → (r : Rule s) → r.waiting ≤ 65
  few_wait s r = let a = total_le tickets weight s.views tickets_le_weight in let b = r.all_wait in let c = r.all_seats in let d = r.few in omega arith

  -- a load that changes nothing
  unmoved : (s : St) → Rule s → (i id : ℕ) (v : V) → get_elem? s.views id ≡ some v → Rule record { words = set s.words i (get_or s.words i 0); homes = s.homes; views = set s.views id v }
  unmoved s r i id v at = subst (λ (x : List ℕ × List V). Rule record { words = x.0; homes = s.homes; views = x.1 }) (λ c. (sym (set-get_or s.words i 0) c, sym (set_again s.views id v at) c)) r

  -- the slot is out just where a seat is inside
  none_inside : (s : St) (r : Rule s) (id : ℕ) (v : V) → get_elem? s.views id ≡ some v → r.holder r.served ≡ id → ((met : T) (k : K) → Inside met k ≡ v → ⊥) → r.out ≡ false
  none_inside s r id v at holds other = ⊎_elim (λ o. let x = r.someone_inside o in absurd (elsewhere s.views (r.holder r.served) id (Inside r.value x.0) v x.1 at (other r.value x.0) holds)) (λ o. o) (cases_Bool r.out)

  queue_longer : (r_served waiting : ℕ) (holder : ℕ → ℕ) (out : Bool) (value : T) (id i : ℕ) (v : V) → Queues j r_served waiting holder out value i v → Queues j r_served (suc waiting) (put holder (r_served + waiting) id) out value i v
  queue_longer served waiting holder out value id i Spent q = tt
  queue_longer served waiting holder out value id i (Outside k) q = tt
  queue_longer served waiting holder out value id i (Waiting ticket k) q = let lo = q.1 in let hi = q.2 in let n : ℕ = q.0 in
      (n, q.1, omega arith, q.3, put_else holder (served + waiting) id n (λ e. omega arith) ∙ q.4)
  queue_longer served waiting holder out value id i (Inside met k) q = let pos = q.2 in (q.0, q.1, omega arith, put_else holder (served + waiting) id served (λ e. omega arith) ∙ q.3)
  queue_longer served waiting holder out value id i (Meeting seen k) q = q

  drawing : (slots id : ℕ) (k : K) → Allows Rule slots id (Outside k, []) 0 (λ n. (n + 1) % 2 ^ 64) (drawn (step slots 0 1 0 none) (Outside k, []))
  drawing slots id k s r deep at small =
      let found : ℕ = get_or s.words 0 0 in let w : V = Waiting found k in let n : ℕ = r.served + r.waiting in
      let is : found ≡ n % 2 ^ 64 = ap (λ ws. get_or ws 0 0) r.words_are in
      let next : n + 1 ≡ r.served + suc r.waiting = omega arith in
      let holder : ℕ → ℕ = put r.holder n id in (
        w,
        keeps,
        tt,
        record {
          value = r.value;
          served = r.served;
          waiting = suc r.waiting;
          out = r.out;
          split = r.split;
          holder = holder;
          owner = r.owner;
          words_are = ap (λ ws. set ws 0 ((get_or ws 0 0 + 1) % 2 ^ 64)) r.words_are ∙ ap (λ z. z ∷ r.served % 2 ^ 64 ∷ []) (counted n ∙ ap (λ z. z % 2 ^ 64) next);
          homes_are = r.homes_are;
          someone_inside = λ o. let x = r.someone_inside o in let q = r.queues (r.holder r.served) (Inside r.value x.0) x.1 in let pos = q.2 in
              let same : holder r.served ≡ r.holder r.served = put_else r.holder n id r.served (λ e. omega arith) in
              (x.0, ap (get_elem? (set s.views id w)) same ∙ (set_else s.views id (r.holder r.served) w (elsewhere s.views (r.holder r.served) id (Inside r.value x.0) (Outside k) x.1 at (λ e. cc)) ∙ x.1));
          all_wait = let t = total_set tickets s.views id (Outside k) w at in let u = r.all_wait in omega arith;
          all_seats = let t = total_set weight s.views id (Outside k) w at in let u = r.all_seats in omega arith;
          few = r.few;
          queues = each_set (Queues j r.served (suc r.waiting) holder r.out r.value) s.views id w (n, omega arith, omega arith, sym is, put_here r.holder n id)
              (λ i v _ e. queue_longer r.served r.waiting r.holder r.out r.value id i v (r.queues i v e));
          fits = each_set (λ i. IfLive (Agrees j seats r.split r.owner r.value i)) s.views id w (r.fits id (Outside k) at) (λ i v _ e. r.fits i v e);
          owned = λ seat i o. still_set (IsLive (λ l. Contains (seats_of l) seat)) s.views id (Outside k) w at (λ p. p) i (r.owned seat i o);
          unsplit = r.unsplit;
          beyond = r.beyond;
        },
        λ l e. ap (λ (m : M). (Waiting found (known_or k m.0), [])) e,
      )

  queue_out : (served waiting : ℕ) (holder : ℕ → ℕ) (out : Bool) (value : T) (i : ℕ) (v : V) → out ≡ false → Queues j served waiting holder out value i v → Queues j served waiting holder true value i v
  queue_out served waiting holder out value i Spent home q = tt
  queue_out served waiting holder out value i (Outside k) home q = tt
  queue_out served waiting holder out value i (Waiting ticket k) home q = q
  queue_out served waiting holder out value i (Inside met k) home q = (refl, q.1, q.2, q.3)
  queue_out served waiting holder out value i (Meeting seen k) home q = q

  -- what fits the value is met
  meets : (split : ℕ) (owner : ℕ → ℕ) (value : T) (id : ℕ) (k : K) → Agrees j seats split owner value id k → Meets j value k
  meets split owner value id k a = (a.opening, a.seen, a.entries, a.desks)

  enters : (slots id ticket : ℕ) (k : K) (s : St) (r : Rule s) → get_elem? s.views id ≡ some (Waiting ticket k) → get_or s.words 1 0 ≡ ticket
      → (w : V) × (a : Act (Option T)) × Valid s.homes [] a
      × Rule (stepped s 1 (get_or s.words 1 0) id [] w a) × HasEntered j k (w, carried_after [] a)
  enters slots id ticket k s r at hit =
      let q = r.queues id (Waiting ticket k) at in let n : ℕ = q.0 in let lo = q.1 in let hi = q.2 in
      let found : get_or s.words 1 0 ≡ r.served % 2 ^ 64 = ap (λ ws. get_or ws 1 0) r.words_are in
      let few = few_wait s r in
      let now : r.served ≡ n = one_turn r.served n (2 ^ 64) lo (omega arith) (sym found ∙ (hit ∙ sym q.3)) in
      let holds : r.holder r.served ≡ id = ap r.holder now ∙ q.4 in
      let home : r.out ≡ false = none_inside s r id (Waiting ticket k) at holds (λ met l e. cc) in
      let homes : s.homes ≡ some (Some r.value) ∷ [] = r.homes_are ∙ ap (λ b. home_of b r.value ∷ []) home in
      let w : V = Inside r.value k in (
        w,
        takes 0 (Some r.value),
        ap (λ h. get_elem? h 0) homes,
        record {
          value = r.value;
          served = r.served;
          waiting = r.waiting;
          out = true;
          split = r.split;
          holder = r.holder;
          owner = r.owner;
          words_are = set-get_or s.words 1 0 ∙ r.words_are;
          homes_are = ap (λ h. set h 0 none) homes;
          someone_inside = λ _. (k, ap (get_elem? (set s.views id w)) holds ∙ set_there s.views id (Waiting ticket k) w at);
          all_wait = let t = total_set tickets s.views id (Waiting ticket k) w at in let u = r.all_wait in omega arith;
          all_seats = let t = total_set weight s.views id (Waiting ticket k) w at in let u = r.all_seats in omega arith;
          few = r.few;
          queues = each_set (Queues j r.served r.waiting r.holder true r.value) s.views id w (refl, refl, omega arith, holds)
              (λ i v _ e. queue_out r.served r.waiting r.holder r.out r.value i v home (r.queues i v e));
          fits = each_set (λ i. IfLive (Agrees j seats r.split r.owner r.value i)) s.views id w (r.fits id (Waiting ticket k) at) (λ i v _ e. r.fits i v e);
          owned = λ seat i o. still_set (IsLive (λ l. Contains (seats_of l) seat)) s.views id (Waiting ticket k) w at (λ p. p) i (r.owned seat i o);
          unsplit = r.unsplit;
          beyond = r.beyond;
        },
        (r.value, refl, meets r.split r.owner r.value id k (r.fits id (Waiting ticket k) at)),
      )

  looking : (slots id ticket : ℕ) (k : K) → Allows Rule slots id (Waiting ticket k, []) 1 (λ n. n) (looked j (step slots 1 0 0 none) (Waiting ticket k, []))
  looking slots id ticket k s r deep at small =
      let found : ℕ = get_or s.words 1 0 in let me : M = (Waiting ticket k, []) in
      let spread = λ (P : ℕ → K → Type 0) (p : P ticket k) (t : ℕ) (l : K) (e : me ≡ (Waiting t l, [])). subst (λ (x : ℕ × K). P x.0 x.1) (λ c. (ticket_or ticket (e c).0, known_or k (e c).0)) p in
      dite (ℕ_discrete found ticket)
      (λ hit. let x = enters slots id ticket k s r at hit in
      (x.0, x.1, x.2, x.3, spread (λ t l. (found ≡ t → HasEntered j l (x.0, carried_after [] x.1)) × (found ≢ t → (x.0, carried_after [] x.1) ≡ me)) ((λ _. x.4), (λ miss. absurd (miss hit)))))
      (λ miss. (Waiting ticket k, keeps, tt, unmoved s r 1 id (Waiting ticket k) at, spread (λ t l. (found ≡ t → HasEntered j l me) × (found ≢ t → me ≡ me)) ((λ hit. absurd (miss hit)), (λ _. refl))))

  -- what a move of the seat k.seat leaves of what the other views know
  others_agree : (split : ℕ) (owner : ℕ → ℕ) (seat : ℕ) (before after : T) (id i : ℕ) (k : K) → GoesOn j.opening j.journal j.seat_of j.desk seat before after → owner seat ≡ suc id → i ≢ id
      → Agrees j seats split owner before i k → Agrees j seats split owner after i k
  others_agree split owner seat before after id i k g own differ a =
      let apart : (p : Place D) → owner p.seat ≡ suc i → p.seat ≢ seat = λ p o e. let x : suc i ≡ suc id = sym o ∙ (ap owner e ∙ own) in differ (omega arith) in record {
        same_seats = a.same_seats;
        opening = g.same_opening ∙ a.opening;
        seen = journals.still_begins j.opening j.journal j.seat_of j.desk seat before after g k.seen a.seen;
        owns = a.owns;
        entries = λ n d l. let p : Place D = get_or (places_of k) n d in journals.same_entries j.opening j.journal j.seat_of j.desk seat before after g p.seat (apart p (a.owns n d l)) ∙ a.entries n d l;
        desks = λ n d l. let p : Place D = get_or (places_of k) n d in g.same_desks p.seat (apart p (a.owns n d l)) ∙ a.desks n d l;
        apart = a.apart;
        others = a.others;
        splits = a.splits;
      }

  others_live : (split : ℕ) (owner : ℕ → ℕ) (seat : ℕ) (before after : T) (id i : ℕ) → GoesOn j.opening j.journal j.seat_of j.desk seat before after → owner seat ≡ suc id → i ≢ id
      → (v : V) → IfLive (Agrees j seats split owner before i) v → IfLive (Agrees j seats split owner after i) v
  others_live split owner seat before after id i g own differ Spent a = tt
  others_live split owner seat before after id i g own differ (Outside k) a = others_agree split owner seat before after id i k g own differ a
  others_live split owner seat before after id i g own differ (Waiting ticket k) a = others_agree split owner seat before after id i k g own differ a
  others_live split owner seat before after id i g own differ (Inside met k) a = others_agree split owner seat before after id i k g own differ a
  others_live split owner seat before after id i g own differ (Meeting seen k) a = others_agree split owner seat before after id i k g own differ a

  -- what the seat that moved knows
  mover_agrees : (split : ℕ) (owner : ℕ → ℕ) (before after : T) (id : ℕ) (k : K) → GoesOn j.opening j.journal j.seat_of j.desk k.seat before after
      → Agrees j seats split owner before id k → Agrees j seats split owner after id (after_turn j before after k)
  mover_agrees split owner before after id k g a =
      let own : owner k.seat ≡ suc id = All-head (λ (p : Place D). owner p.seat ≡ suc id) (place k.seat k.desk) k.joined a.owns in
      let was : Place D → Type 0 = λ p. entries_of j.seat_of p.seat (j.journal before) ≡ entries_of j.seat_of p.seat k.own in
      let own' : List E = k.own ++ drop (length (j.journal before)) (j.journal after) in
      let more = λ (seat : ℕ) (e : entries_of j.seat_of seat (j.journal before) ≡ entries_of j.seat_of seat k.own). journals.more_entries j.opening j.journal j.seat_of j.desk k.seat before after g seat k.own e in record {
        same_seats = a.same_seats;
        opening = g.same_opening ∙ a.opening;
        seen = ([], sym (append-nil (j.journal after)));
        owns = All-cons (λ (p : Place D). owner p.seat ≡ suc id) (place k.seat (j.desk after k.seat)) k.joined own (All-tail (λ (p : Place D). owner p.seat ≡ suc id) (place k.seat k.desk) k.joined a.owns);
        entries = All-cons (λ (p : Place D). entries_of j.seat_of p.seat (j.journal after) ≡ entries_of j.seat_of p.seat own') (place k.seat (j.desk after k.seat)) k.joined
            (more k.seat (All-head was (place k.seat k.desk) k.joined a.entries)) (λ n d l. more (get_or k.joined n d).seat (All-tail was (place k.seat k.desk) k.joined a.entries n d l));
        desks = All-cons (λ (p : Place D). j.desk after p.seat ≡ p.desk) (place k.seat (j.desk after k.seat)) k.joined refl
            (λ n d l. g.same_desks (get_or k.joined n d).seat (a.apart n d l) ∙ All-tail (λ (p : Place D). j.desk before p.seat ≡ p.desk) (place k.seat k.desk) k.joined a.desks n d l);
        apart = a.apart;
        others = λ seat o. journals.no_entries j.opening j.journal j.seat_of j.desk k.seat before after g seat k.own (λ e. o (ap owner e ∙ own)) (a.others seat o);
        splits = a.splits;
      }

  queue_on : (served waiting : ℕ) (holder : ℕ → ℕ) (out : Bool) (seat : ℕ) (before after : T) (id i : ℕ) → GoesOn j.opening j.journal j.seat_of j.desk seat before after → holder served ≡ id → i ≢ id
      → (v : V) → Queues j served (suc waiting) holder out before i v → Queues j (suc served) waiting holder false after i v
  queue_on served waiting holder out seat before after id i g own differ Spent q = tt
  queue_on served waiting holder out seat before after id i g own differ (Outside k) q = tt
  queue_on served waiting holder out seat before after id i g own differ (Waiting ticket k) q = let lo = q.1 in let hi = q.2 in let n : ℕ = q.0 in
      let later : served ≢ n = λ e. differ (sym q.4 ∙ (ap holder (sym e) ∙ own)) in (n, omega arith, omega arith, q.3, q.4)
  queue_on served waiting holder out seat before after id i g own differ (Inside met k) q = absurd (differ (sym q.3 ∙ own))
  queue_on served waiting holder out seat before after id i g own differ (Meeting seen k) q = journals.still_begins j.opening j.journal j.seat_of j.desk seat before after g seen q

  leaves : (id : ℕ) (met x : T) (k : K) (s : St) (r : Rule s) → get_elem? s.views id ≡ some (Inside met k) → GoesOn j.opening j.journal j.seat_of j.desk k.seat r.value x → met ≡ r.value
      → Rule (stepped s 1 ((get_or s.words 1 0 + 1) % 2 ^ 64) id ((0, Some x) ∷ []) (Outside (after_turn j met x k)) gives)
  leaves id met x k s r at g same =
      let w : V = Outside (after_turn j met x k) in let q = r.queues id (Inside met k) at in let a : Agrees j seats r.split r.owner r.value id k = r.fits id (Inside met k) at in
      let pos = q.2 in let fewer : ℕ = r.waiting - 1 in let holds : r.holder r.served ≡ id = q.3 in
      let own : r.owner k.seat ≡ suc id = All-head (λ (p : Place D). r.owner p.seat ≡ suc id) (place k.seat k.desk) k.joined a.owns in
      let sum : r.served + r.waiting ≡ suc r.served + fewer = omega arith in let one : r.served + 1 ≡ suc r.served = omega arith in
      let more : r.waiting ≡ suc fewer = omega arith in record {
        value = x;
        served = suc r.served;
        waiting = fewer;
        out = false;
        split = r.split;
        holder = r.holder;
        owner = r.owner;
        words_are = ap (λ ws. set ws 1 ((get_or ws 1 0 + 1) % 2 ^ 64)) r.words_are
            ∙ (λ c. sum c % 2 ^ 64 ∷ (counted r.served ∙ ap (λ z. z % 2 ^ 64) one) c ∷ []);
        homes_are = ap (λ h. set h 0 (some (Some x))) r.homes_are;
        someone_inside = λ o. absurd (cc);
        all_wait = let t = total_set tickets s.views id (Inside met k) w at in let u = r.all_wait in omega arith;
        all_seats = let t = total_set weight s.views id (Inside met k) w at in let u = r.all_seats in omega arith;
        few = r.few;
        queues = each_set (Queues j (suc r.served) fewer r.holder false x) s.views id w tt
            (λ i v other e. queue_on r.served fewer r.holder r.out k.seat r.value x id i g holds other v (subst (λ n. Queues j r.served n r.holder r.out r.value i v) more (r.queues i v e)));
        fits = each_set (λ i. IfLive (Agrees j seats r.split r.owner x i)) s.views id w
            (subst (λ m. Agrees j seats r.split r.owner x id (after_turn j m x k)) (sym same) (mover_agrees r.split r.owner r.value x id k g a))
            (λ i v other e. others_live r.split r.owner k.seat r.value x id i g own other v (r.fits i v e));
        owned = λ seat i o. still_set (IsLive (λ l. Contains (seats_of l) seat)) s.views id (Inside met k) w at (λ p. p) i (r.owned seat i o);
        unsplit = λ seat none. let differ : seat ≢ k.seat = λ e. let z : 0 ≡ suc id = sym none ∙ (ap r.owner e ∙ own) in omega arith in
            (journals.same_entries j.opening j.journal j.seat_of j.desk k.seat r.value x g seat differ ∙ (r.unsplit seat none).0, g.same_desks seat differ ∙ (r.unsplit seat none).1);
        beyond = r.beyond;
      }

  moving : (slots id : ℕ) (met x : T) (k : K) → GoesOn j.opening j.journal j.seat_of j.desk k.seat met x
      → Allows Rule slots id (Inside met k, (0, Some x) ∷ []) 1 (λ n. (n + 1) % 2 ^ 64) (moved_on j (step slots 1 1 0 none) (Inside met k, (0, Some x) ∷ []))
  moving slots id met x k g s r deep at small =
      let same : met ≡ r.value = (r.queues id (Inside met k) at).1 in let me : M = (Inside met k, (0, Some x) ∷ []) in (
        Outside (after_turn j met x k),
        gives,
        tt,
        leaves id met x k s r at (subst (λ m. GoesOn j.opening j.journal j.seat_of j.desk k.seat m x) same g) same,
        (λ m y l e. ap (λ (z : M). (Outside (after_turn j (met_or met z.0) (slot_or x z.1) (known_or k z.0)), [])) e),
      )

  pub draws : (slots id : ℕ) (me : M) (k : K) → me ≡ (Outside k, []) → Allows Rule slots id me 0 (λ n. (n + 1) % 2 ^ 64) (drawn (step slots 0 1 0 none) me)
  draws slots id me k is = subst (λ m. Allows Rule slots id m 0 (λ n. (n + 1) % 2 ^ 64) (drawn (step slots 0 1 0 none) m)) (sym is) (drawing slots id k)

  pub looks : (slots id ticket : ℕ) (me : M) (k : K) → me ≡ (Waiting ticket k, []) → Allows Rule slots id me 1 (λ n. n) (looked j (step slots 1 0 0 none) me)
  looks slots id ticket me k is = subst (λ m. Allows Rule slots id m 1 (λ n. n) (looked j (step slots 1 0 0 none) m)) (sym is) (looking slots id ticket k)

  pub moves_on : (slots id : ℕ) (met x : T) (me : M) (k : K) → GoesOn j.opening j.journal j.seat_of j.desk k.seat met x → me ≡ (Inside met k, (0, Some x) ∷ [])
      → Allows Rule slots id me 1 (λ n. (n + 1) % 2 ^ 64) (moved_on j (step slots 1 1 0 none) me)
  moves_on slots id met x me k g is = subst (λ m. Allows Rule slots id m 1 (λ n. (n + 1) % 2 ^ 64) (moved_on j (step slots 1 1 0 none) m)) (sym is) (moving slots id met x k g)
