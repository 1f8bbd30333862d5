-- The opening, the splitting and the meeting of passes keep the rule of the table, and what the last pass knows at the end.
use Rattle.std.proofs.Common.{◌≡◌, ◌≢◌, ℕ, zero, suc, ◌+◌, ◌-◌, ◌<◌, ◌≤◌, false, List, [], ◌∷◌, ◌++◌, length, set, get_or, sym, refl, ap, ◌∙◌, subst, ⊎_elim, arith, append-nil, Option, Some}
use Rattle.std.proofs.lemmas.Bool.{cases_Bool}
use Rattle.std.proofs.lemmas.List.{set-get_or, map-append}
use Rattle.std.proofs.lemmas.List.Elements.{All-nil, All-head, All-cons, All-append, All-map, All-contains, Contains-append_left, Contains-append_right}
use Rattle.std.specs.List.{Contains}
use mathlib.Core.Option.{some, none, some-injective, some-ne-none}
use mathlib.Core.Logic.{dite}
use native.Mathlib.Decide.{ℕ_discrete}
use lib.ListN.{get_elem?}
use Rattle.atomic_table.specs.Table.{State, Me, step, keeps, Allows, Splits, Joins, Final, Seen, opening}
use Rattle.atomic_table.proofs.Lists.{set_else, at_longer, at_last}
use Rattle.ve_turn.specs.declared.journaled.Journaled.{Ghosts}
use Rattle.ve_turn.specs.declared.view.Knowledge.{Knowledge}
use Rattle.ve_turn.specs.declared.view.Place.{Place}
use Rattle.ve_turn.specs.declared.view.View.{View}
use Rattle.ve_turn.specs.declared.view.View.TheVariants.{Spent, Outside, Waiting, Inside, Meeting}
use Rattle.ve_turn.specs.Journal.{entries_of, BeginsWith, longer_of}
use Rattle.ve_turn.specs.Knows.{place, places_of, desk_in, new_seat, met_of, opening_knowledge}
use Rattle.ve_turn.specs.Places.{known_or}
use Rattle.ve_turn.specs.Rule.{weight, tickets, IfLive, IsLive, seats_of, home_of, Agrees, Queues, Turning}
use Rattle.ve_turn.specs.Steps.{settled, Settles, first_cut, second_cut, glued}
use Rattle.ve_turn.proofs.Totals.{put, put_here, put_else, swap_for, swapped, unswapped, set_there, total_set, total_snoc, one_of, two_of, each_set, each_snoc, still_set, elsewhere}
use Rattle.ve_turn.proofs.Journals.{entries-append, longer_begins, desk_in_none, desk_in_some}

module _ {T O E D : Type 0} where
  abbrev seen_or : List E → View T O E D → List E
  seen_or l (Meeting seen k) = seen
  seen_or l v = l

  -- from what is known of a view that is not spent
  live_map : {P Q : Knowledge T O E D → Type 0} → ((k : Knowledge T O E D) → P k → Q k) → (v : View T O E D) → IfLive P v → IfLive Q v
  live_map f Spent p = tt
  live_map f (Outside k) p = f k p
  live_map f (Waiting ticket k) p = f k p
  live_map f (Inside met k) p = f k p
  live_map f (Meeting seen k) p = f k p

  live_weighs : (P : Knowledge T O E D → Type 0) → (v : View T O E D) → IsLive P v → 1 ≤ weight v
  live_weighs P Spent p = absurd p
  live_weighs P (Outside k) p = omega arith
  live_weighs P (Waiting ticket k) p = omega arith
  live_weighs P (Inside met k) p = omega arith
  live_weighs P (Meeting seen k) p = omega arith

  -- the seat of a new pass, by what the pass before knows
  abbrev next_seat : Knowledge T O E D → ℕ
  next_seat k = k.seats - k.left

module _ {T O E D : Type 0} (j : Ghosts T O E D) (seats : ℕ) where
  abbrev V : Type 0
  V = View T O E D

  abbrev K : Type 0
  K = Knowledge T O E D

  abbrev St : Type 0
  St = State (Option T) V

  abbrev M : Type 0
  M = Me (Option T) V

  abbrev Rule : St → Type 0
  Rule = Turning j seats

  pub opens : (value : T) → 1 ≤ seats → seats ≤ 65 → j.journal value ≡ [] → ((seat : ℕ) → j.desk value seat ≡ j.empty_desk) → Rule (opening (0 ∷ 0 ∷ []) (Some value ∷ []) (Outside (opening_knowledge j value seats)))
  opens value low high blank bare = let owner : ℕ → ℕ = put (λ _. 0) 0 1 in let k : K = opening_knowledge j value seats in let v : V = Outside k in record {
    value = value;
    served = 0;
    waiting = 0;
    out = false;
    split = 1;
    holder = λ _. 0;
    owner = owner;
    words_are = refl;
    homes_are = refl;
    someone_inside = λ o. absurd (cc);
    all_wait = refl;
    all_seats = omega arith;
    few = high;
    queues = each_snoc (Queues j 0 0 (λ _. 0) false value) [] v tt (λ i w e. absurd (some-ne-none w (sym e)));
    fits = each_snoc (λ i. IfLive (Agrees j seats 1 owner value i)) [] v
        record {
          same_seats = refl;
          opening = refl;
          seen = (j.journal value, refl);
          owns = All-cons (λ (p : Place D). owner p.seat ≡ 1) (place 0 j.empty_desk) [] (put_here (λ _. 0) 0 1) (All-nil (λ (p : Place D). owner p.seat ≡ 1));
          entries = All-cons (λ (p : Place D). entries_of j.seat_of p.seat (j.journal value) ≡ []) (place 0 j.empty_desk) [] (ap (entries_of j.seat_of 0) blank)
              (All-nil (λ (p : Place D). entries_of j.seat_of p.seat (j.journal value) ≡ []));
          desks = All-cons (λ (p : Place D). j.desk value p.seat ≡ p.desk) (place 0 j.empty_desk) [] (bare 0) (All-nil (λ (p : Place D). j.desk value p.seat ≡ p.desk));
          apart = All-nil (λ (p : Place D). p.seat ≢ 0);
          others = λ seat o. refl;
          splits = λ _ _. (refl, omega arith);
        }
        (λ i w e. absurd (some-ne-none w (sym e)));
    owned = λ seat id o. dite (ℕ_discrete seat 0)
        (λ zeroth. let is : 1 ≡ suc id = sym (put_here (λ _. 0) 0 1) ∙ (ap owner (sym zeroth) ∙ o) in let none_else : id ≡ 0 = omega arith in
        (v, ap (get_elem? (v ∷ [])) none_else, (0, omega arith, sym zeroth)))
        (λ n. let is : 0 ≡ suc id = sym (put_else (λ _. 0) 0 1 seat n) ∙ o in absurd (omega arith));
    unsplit = λ seat o. (ap (entries_of j.seat_of seat) blank, bare seat);
    beyond = λ seat l. put_else (λ _. 0) 0 1 seat (λ e. omega arith);
  }

  settling : (slots id : ℕ) (seen : List E) (k : K) → Allows Rule slots id (Meeting seen k, []) 1 (λ n. n) (settled (step slots 1 0 0 none) (Meeting seen k, []))
  settling slots id seen k s r deep at small =
      let a : Agrees j seats r.split r.owner r.value id k = r.fits id (Meeting seen k) at in let both = longer_begins (j.journal r.value) k.seen seen a.seen (r.queues id (Meeting seen k) at) in
      let now : K = record k { seen = longer_of k.seen seen } in let w : V = Outside now in
      let small_enough : (k.left < k.seats) × (k.seats ≤ 65) = (let one = one_of weight s.views id (Meeting seen k) at in let u = r.all_seats in let n = r.few in let m = a.same_seats in (omega arith, omega arith)) in (
        w,
        keeps,
        tt,
        record {
          value = r.value;
          served = r.served;
          waiting = r.waiting;
          out = r.out;
          split = r.split;
          holder = r.holder;
          owner = r.owner;
          words_are = set-get_or s.words 1 0 ∙ r.words_are;
          homes_are = r.homes_are;
          someone_inside = λ o. let x = r.someone_inside o in
              (x.0, set_else s.views id (r.holder r.served) w (elsewhere s.views (r.holder r.served) id (Inside r.value x.0) (Meeting seen k) x.1 at (λ e. cc)) ∙ x.1);
          all_wait = let t = total_set tickets s.views id (Meeting seen k) w at in let u = r.all_wait in omega arith;
          all_seats = let t = total_set weight s.views id (Meeting seen k) w at in let u = r.all_seats in omega arith;
          few = r.few;
          queues = each_set (Queues j r.served r.waiting r.holder r.out r.value) s.views id w tt (λ i v _ e. r.queues i v e);
          fits = each_set (λ i. IfLive (Agrees j seats r.split r.owner r.value i)) s.views id w
              record {
                same_seats = a.same_seats;
                opening = a.opening;
                seen = both.0;
                owns = a.owns;
                entries = a.entries;
                desks = a.desks;
                apart = a.apart;
                others = a.others;
                splits = a.splits;
              }
              (λ i v _ e. r.fits i v e);
          owned = λ seat i o. still_set (IsLive (λ l. Contains (seats_of l) seat)) s.views id (Meeting seen k) w at (λ p. p) i (r.owned seat i o);
          unsplit = r.unsplit;
          beyond = r.beyond;
        },
        (λ l other e. subst (λ (x : List E × K). Settles x.0 x.1 (w, [])) (λ c. (seen_or seen (e c).0, known_or k (e c).0)) (refl, both.1, both.2, small_enough.0, small_enough.1)),
      )

  pub settles : (slots id : ℕ) (seen : List E) (me : M) (k : K) → me ≡ (Meeting seen k, []) → Allows Rule slots id me 1 (λ n. n) (settled (step slots 1 0 0 none) me)
  settles slots id seen me k is = subst (λ m. Allows Rule slots id m 1 (λ n. n) (settled (step slots 1 0 0 none) m)) (sym is) (settling slots id seen k)

  -- what a view knows after another seat was split from the view id
  cut_others : (split n id new i : ℕ) (owner : ℕ → ℕ) (value : T) (k : K) (l : K) → owner n ≡ 0 → owner 0 ≡ suc id → i ≢ id → Agrees j seats split owner value i l → Agrees j seats (suc split) (put owner n new) value i l
  cut_others split n id new i owner value k l free zeroth differ a =
      let kept : (seat : ℕ) → owner seat ≡ suc i → put owner n new seat ≡ suc i = λ seat o. put_else owner n new seat (λ e. let z : 0 ≡ suc i = sym free ∙ (ap owner (sym e) ∙ o) in omega arith) ∙ o in record {
        same_seats = a.same_seats;
        opening = a.opening;
        seen = a.seen;
        owns = λ c d x. kept (get_or (places_of l) c d).seat (a.owns c d x);
        entries = a.entries;
        desks = a.desks;
        apart = a.apart;
        others = λ seat o. a.others seat (λ e. o (kept seat e));
        splits = λ first pos. let z = (a.splits first pos).0 in
            let own : owner l.seat ≡ suc i = All-head (λ (p : Place D). owner p.seat ≡ suc i) (place l.seat l.desk) l.joined a.owns in
            let same : suc i ≡ suc id = sym own ∙ (ap owner z ∙ zeroth) in absurd (differ (omega arith));
      }

  cut_live : (split n id new i : ℕ) (owner : ℕ → ℕ) (value : T) (k : K) → owner n ≡ 0 → owner 0 ≡ suc id → i ≢ id → (v : V) → IfLive (Agrees j seats split owner value i) v → IfLive (Agrees j seats (suc split) (put owner n new) value i) v
  cut_live split n id new i owner value k free zeroth differ v a = live_map {P = Agrees j seats split owner value i} {Q = Agrees j seats (suc split) (put owner n new) value i} (λ l b. cut_others split n id new i owner value k l free zeroth differ b) v a

  splitting : (id : ℕ) (k : K) → 1 ≤ k.left → k.is_met ≡ false → Splits Rule id (Outside k) (first_cut (Outside k)) (second_cut j.empty_desk (Outside k))
  splitting id k pos first s r at =
      let a : Agrees j seats r.split r.owner r.value id k = r.fits id (Outside k) at in let z = a.splits first (omega arith) in let z0 = z.0 in let z1 = z.1 in let same = a.same_seats in
      let n : ℕ = next_seat k in let is : n ≡ r.split = omega arith in let v : V = Outside k in let kept : K = record k { left = k.left - 1 } in let w : V = Outside kept in
      let made : K = new_seat j.empty_desk n k in let u : V = Outside made in let vs : List V = set s.views id w in let new : ℕ = length vs in
      let free : r.owner n ≡ 0 = r.beyond n (omega arith) in let owner : ℕ → ℕ = put r.owner n (suc new) in
      let own : r.owner k.seat ≡ suc id = All-head (λ (p : Place D). r.owner p.seat ≡ suc id) (place k.seat k.desk) k.joined a.owns in
      let zeroth : r.owner 0 ≡ suc id = ap r.owner (sym z0) ∙ own in
      let stays : (seat i : ℕ) → r.owner seat ≡ suc i → owner seat ≡ suc i = λ seat i o. put_else r.owner n (suc new) seat (λ e. let c : 0 ≡ suc i = sym free ∙ (ap r.owner (sym e) ∙ o) in omega arith) ∙ o in
      let bare = r.unsplit n free in record {
        value = r.value;
        served = r.served;
        waiting = r.waiting;
        out = r.out;
        split = suc r.split;
        holder = r.holder;
        owner = owner;
        words_are = r.words_are;
        homes_are = r.homes_are;
        someone_inside = λ o. let x = r.someone_inside o in (
          x.0,
          at_longer vs (u ∷ []) (r.holder r.served) (Inside r.value x.0)
              (set_else s.views id (r.holder r.served) w (elsewhere s.views (r.holder r.served) id (Inside r.value x.0) v x.1 at (λ e. cc)) ∙ x.1),
        );
        all_wait = let t = total_set tickets s.views id v w at in let t' = total_snoc tickets vs u in let q = r.all_wait in omega arith;
        all_seats = let t = total_set weight s.views id v w at in let t' = total_snoc weight vs u in let q = r.all_seats in omega arith;
        few = r.few;
        queues = each_snoc (Queues j r.served r.waiting r.holder r.out r.value) vs u tt (each_set (Queues j r.served r.waiting r.holder r.out r.value) s.views id w tt (λ i x _ e. r.queues i x e));
        fits = each_snoc (λ i. IfLive (Agrees j seats (suc r.split) owner r.value i)) vs u
            record {
              same_seats = same;
              opening = a.opening;
              seen = a.seen;
              owns = All-cons (λ (p : Place D). owner p.seat ≡ suc new) (place n j.empty_desk) [] (put_here r.owner n (suc new)) (All-nil (λ (p : Place D). owner p.seat ≡ suc new));
              entries = All-cons (λ (p : Place D). entries_of j.seat_of p.seat (j.journal r.value) ≡ []) (place n j.empty_desk) [] bare.0 (All-nil (λ (p : Place D). entries_of j.seat_of p.seat (j.journal r.value) ≡ []));
              desks = All-cons (λ (p : Place D). j.desk r.value p.seat ≡ p.desk) (place n j.empty_desk) [] bare.1 (All-nil (λ (p : Place D). j.desk r.value p.seat ≡ p.desk));
              apart = All-nil (λ (p : Place D). p.seat ≢ n);
              others = λ seat o. refl;
              splits = λ _ l. absurd (omega arith);
            }
            (each_set (λ i. IfLive (Agrees j seats (suc r.split) owner r.value i)) s.views id w
            record {
              same_seats = same;
              opening = a.opening;
              seen = a.seen;
              owns = λ c d x. stays (get_or (places_of k) c d).seat id (a.owns c d x);
              entries = a.entries;
              desks = a.desks;
              apart = a.apart;
              others = λ seat o. a.others seat (λ e. o (stays seat id e));
              splits = λ _ l. (z0, omega arith);
            }
            (λ i x other e. cut_live r.split n id (suc new) i r.owner r.value k free zeroth other x (r.fits i x e)));
        owned = λ seat i o. dite (ℕ_discrete seat n)
            (λ e. let c : suc new ≡ suc i = sym (put_here r.owner n (suc new)) ∙ (ap owner (sym e) ∙ o) in (u, at_last vs u i (omega arith), (0, omega arith, sym e)))
            (λ e. let h = still_set (IsLive (λ l. Contains (seats_of l) seat)) s.views id v w at (λ p. p) i (r.owned seat i (sym (put_else r.owner n (suc new) seat e) ∙ o)) in
            (h.0, at_longer vs (u ∷ []) i h.0 h.1, h.2));
        unsplit = λ seat o. r.unsplit seat (sym (put_else r.owner n (suc new) seat (λ e. let c : suc new ≡ 0 = sym (put_here r.owner n (suc new)) ∙ (ap owner (sym e) ∙ o) in omega arith)) ∙ o);
        beyond = λ seat l. put_else r.owner n (suc new) seat (λ e. omega arith) ∙ r.beyond seat (omega arith);
      }

  pub splits : (id : ℕ) (v : V) (k : K) → v ≡ Outside k → 1 ≤ k.left → k.is_met ≡ false → Splits Rule id v (first_cut v) (second_cut j.empty_desk v)
  splits id v k is pos first = subst (λ x. Splits Rule id x (first_cut x) (second_cut j.empty_desk x)) (sym is) (splitting id k pos first)

  -- what a third view knows after two were joined
  glue_others : (split id other i : ℕ) (owner : ℕ → ℕ) (value : T) (l : K) → i ≢ other → Agrees j seats split owner value i l → Agrees j seats split (swap_for owner (suc other) (suc id)) value i l
  glue_others split id other i owner value l differ a =
      let kept : (seat : ℕ) → owner seat ≡ suc i → swap_for owner (suc other) (suc id) seat ≡ suc i = λ seat o. unswapped owner (suc other) (suc id) seat (λ e. let z : suc i ≡ suc other = sym o ∙ e in differ (omega arith)) ∙ o in record {
        same_seats = a.same_seats;
        opening = a.opening;
        seen = a.seen;
        owns = λ c d x. kept (get_or (places_of l) c d).seat (a.owns c d x);
        entries = a.entries;
        desks = a.desks;
        apart = a.apart;
        others = λ seat o. a.others seat (λ e. o (kept seat e));
        splits = a.splits;
      }

  -- what the first view knows after the second was joined into it, but for the second's journal
  glue_agrees : (split id other : ℕ) (owner : ℕ → ℕ) (value : T) (a b : K) → ¬ (other ≡ id) → Agrees j seats split owner value id a → Agrees j seats split owner value other b
      → Agrees j seats split (swap_for owner (suc other) (suc id)) value id (record (met_of a b) { seen = a.seen })
  glue_agrees split id other owner value a b differ p q =
      let now : ℕ → ℕ = swap_for owner (suc other) (suc id) in let m : K = record (met_of a b) { seen = a.seen } in
      let apart : (seat : ℕ) → owner seat ≡ suc id → owner seat ≡ suc other → ⊥ = λ seat e f. let z : suc id ≡ suc other = sym e ∙ f in differ (omega arith) in
      let stays : (seat : ℕ) → owner seat ≡ suc id → now seat ≡ suc id = λ seat o. unswapped owner (suc other) (suc id) seat (λ f. apart seat o f) ∙ o in
      let comes : (seat : ℕ) → owner seat ≡ suc other → now seat ≡ suc id = λ seat o. swapped owner (suc other) (suc id) seat o in
      let own : owner a.seat ≡ suc id = All-head (λ (x : Place D). owner x.seat ≡ suc id) (place a.seat a.desk) a.joined p.owns in
      let mine : Place D → Type 0 = λ x. entries_of j.seat_of x.seat (j.journal value) ≡ entries_of j.seat_of x.seat (a.own ++ b.own) in record {
        same_seats = p.same_seats;
        opening = p.opening;
        seen = p.seen;
        owns = All-append (λ (x : Place D). now x.seat ≡ suc id) (places_of a) (places_of b) (λ c d x. stays (get_or (places_of a) c d).seat (p.owns c d x)) (λ c d x. comes (get_or (places_of b) c d).seat (q.owns c d x));
        entries = All-append mine (places_of a) (places_of b)
            (λ c d x. let seat : ℕ = (get_or (places_of a) c d).seat in p.entries c d x
            ∙ (sym (append-nil (entries_of j.seat_of seat a.own)) ∙ (ap (λ z. entries_of j.seat_of seat a.own ++ z) (sym (q.others seat (λ f. apart seat (p.owns c d x) f))) ∙ sym (entries-append j.seat_of seat a.own b.own))))
            (λ c d x. let seat : ℕ = (get_or (places_of b) c d).seat in q.entries c d x
            ∙ (ap (λ z. z ++ entries_of j.seat_of seat b.own) (sym (p.others seat (λ e. apart seat e (q.owns c d x)))) ∙ sym (entries-append j.seat_of seat a.own b.own)));
        desks = All-append (λ (x : Place D). j.desk value x.seat ≡ x.desk) (places_of a) (places_of b) p.desks q.desks;
        apart = All-append (λ (x : Place D). x.seat ≢ a.seat) a.joined (places_of b) p.apart (λ c d x e. apart a.seat own (ap owner (sym e) ∙ q.owns c d x));
        others = λ seat o. entries-append j.seat_of seat a.own b.own
            ∙ (λ i. p.others seat (λ e. o (stays seat e)) i ++ q.others seat (λ e. o (comes seat e)) i);
        splits = λ first. absurd (cc);
      }

  glue_live : (split id other i : ℕ) (owner : ℕ → ℕ) (value : T) → i ≢ other → (v : V) → IfLive (Agrees j seats split owner value i) v → IfLive (Agrees j seats split (swap_for owner (suc other) (suc id)) value i) v
  glue_live split id other i owner value differ v a = live_map {P = Agrees j seats split owner value i} {Q = Agrees j seats split (swap_for owner (suc other) (suc id)) value i} (λ l b. glue_others split id other i owner value l differ b) v a

  joining : (id other : ℕ) (a b : K) → Joins Rule id (Outside a) other (Outside b) (glued (Outside a) (Outside b)) Spent
  joining id other a b s r at differ there =
      let v : V = Outside a in let w : V = Outside b in let m : K = record (met_of a b) { seen = a.seen } in let u : V = Meeting b.seen m in let vs : List V = set s.views id u in
      let at_w : get_elem? s.views other ≡ some w = sym (set_else s.views id other u differ) ∙ there in
      let p : Agrees j seats r.split r.owner r.value id a = r.fits id v at in let q : Agrees j seats r.split r.owner r.value other b = r.fits other w at_w in
      let now : ℕ → ℕ = swap_for r.owner (suc other) (suc id) in
      let split_list : seats_of m ≡ seats_of a ++ seats_of b = map-append (λ (x : Place D). x.seat) (places_of a) (places_of b) in record {
        value = r.value;
        served = r.served;
        waiting = r.waiting;
        out = r.out;
        split = r.split;
        holder = r.holder;
        owner = now;
        words_are = r.words_are;
        homes_are = r.homes_are;
        someone_inside = λ o. let x = r.someone_inside o in let h : ℕ = r.holder r.served in
            (x.0, set_else vs other h Spent (elsewhere s.views h other (Inside r.value x.0) w x.1 at_w (λ e. cc)) ∙ (set_else s.views id h u (elsewhere s.views h id (Inside r.value x.0) v x.1 at (λ e. cc)) ∙ x.1));
        all_wait = let t = total_set tickets s.views id v u at in let t' = total_set tickets vs other w Spent there in let z = r.all_wait in omega arith;
        all_seats = let t = total_set weight s.views id v u at in let t' = total_set weight vs other w Spent there in let z = r.all_seats in omega arith;
        few = r.few;
        queues = each_set (Queues j r.served r.waiting r.holder r.out r.value) vs other Spent tt
            (λ i x _ e. each_set (Queues j r.served r.waiting r.holder r.out r.value) s.views id u q.seen (λ k y _ f. r.queues k y f) i x e);
        fits = each_set (λ i. IfLive (Agrees j seats r.split now r.value i)) vs other Spent tt
            (λ i x n e. each_set (λ k y. k ≢ other → IfLive (Agrees j seats r.split now r.value k) y) s.views id u (λ _. glue_agrees r.split id other r.owner r.value a b differ p q)
            (λ k y _ f n'. glue_live r.split id other k r.owner r.value n' y (r.fits k y f)) i x e n);
        owned = λ seat i o. dite (ℕ_discrete (r.owner seat) (suc other))
            (λ e. let is : suc id ≡ suc i = sym (swapped r.owner (suc other) (suc id) seat e) ∙ o in let i_is : i ≡ id = omega arith in let h = r.owned seat other e in
            let has : Contains (seats_of b) seat = subst (IsLive (λ l. Contains (seats_of l) seat)) (some-injective h.0 w (sym h.1 ∙ at_w)) h.2 in (
              u,
              ap (get_elem? (set vs other Spent)) i_is ∙ (set_else vs other id Spent (λ z. differ (sym z)) ∙ set_there s.views id v u at),
              subst (λ l. Contains l seat) (sym split_list) (Contains-append_right (seats_of a) (seats_of b) seat has),
            ))
            (λ n. let e : r.owner seat ≡ suc i = sym (unswapped r.owner (suc other) (suc id) seat n) ∙ o in
            let h = still_set (IsLive (λ l. Contains (seats_of l) seat)) s.views id v u at (λ has. subst (λ l. Contains l seat) (sym split_list) (Contains-append_left (seats_of a) (seats_of b) seat has)) i (r.owned seat i e) in
            (h.0, set_else vs other i Spent (λ z. n (e ∙ ap suc z)) ∙ h.1, h.2));
        unsplit = λ seat o. r.unsplit seat (dite (ℕ_discrete (r.owner seat) (suc other))
            (λ e. let z : suc id ≡ 0 = sym (swapped r.owner (suc other) (suc id) seat e) ∙ o in absurd (omega arith)) (λ n. sym (unswapped r.owner (suc other) (suc id) seat n) ∙ o));
        beyond = λ seat l. let free : r.owner seat ≡ 0 = r.beyond seat l in unswapped r.owner (suc other) (suc id) seat (λ e. let z : 0 ≡ suc other = sym free ∙ e in omega arith) ∙ free;
      }

  pub joins : (id other : ℕ) (v w : V) (a b : K) → v ≡ Outside a → w ≡ Outside b → Joins Rule id v other w (glued v w) Spent
  joins id other v w a b is is' = subst (λ (x : V × V). Joins Rule id x.0 other x.1 (glued x.0 x.1) Spent) (λ i. (sym is i, sym is' i)) (joining id other a b)

  -- what the last pass knows of the value at the end
  pub record IsLast (value : T) (k : K) : Type 0 where
    pub opening_is : j.opening value ≡ k.opening
    pub begins : BeginsWith (j.journal value) k.seen
    pub entries_are : (seat : ℕ) → entries_of j.seat_of seat (j.journal value) ≡ entries_of j.seat_of seat k.own
    pub desks_are : (seat : ℕ) → j.desk value seat ≡ desk_in j.empty_desk (places_of k) seat

  module _ (id : ℕ) (k : K) (s : St) (r : Rule s) (at : get_elem? s.views id ≡ some (Outside k)) (all : k.left + 1 ≡ k.seats) where
    -- no other view stands for a seat
    alone : (i : ℕ) (v : V) → get_elem? s.views i ≡ some v → 1 ≤ weight v → i ≢ id → ⊥
    alone i v there weighs differ =
        let two = two_of weight s.views i id v (Outside k) differ there at in let u = r.all_seats in let a : Agrees j seats r.split r.owner r.value id k = r.fits id (Outside k) at in let same = a.same_seats in omega arith

    pub closes : (s.homes ≡ some (Some r.value) ∷ []) × IsLast r.value k
    closes =
        let a : Agrees j seats r.split r.owner r.value id k = r.fits id (Outside k) at in
        let home : r.out ≡ false = ⊎_elim (λ o. let x = r.someone_inside o in let h : ℕ = r.holder r.served in
        absurd (alone h (Inside r.value x.0) x.1 (omega arith) (elsewhere s.views h id (Inside r.value x.0) (Outside k) x.1 at (λ e. cc)))) (λ o. o) (cases_Bool r.out) in
        let whose : (seat i : ℕ) → r.owner seat ≡ suc i → (i ≡ id) × Contains (seats_of k) seat = λ seat i o. let h = r.owned seat i o in dite (ℕ_discrete i id)
        (λ e. (e, subst (IsLive (λ l. Contains (seats_of l) seat)) (some-injective h.0 (Outside k) (sym h.1 ∙ (ap (get_elem? s.views) e ∙ at))) h.2))
        (λ n. absurd (alone i h.0 h.1 (live_weighs (λ l. Contains (seats_of l) seat) h.0 h.2) n)) in (
          r.homes_are ∙ ap (λ b. home_of b r.value ∷ []) home,
          record {
            opening_is = a.opening;
            begins = a.seen;
            entries_are = λ seat. by_owner (λ n. entries_of j.seat_of n (j.journal r.value) ≡ entries_of j.seat_of n k.own) seat (r.owner seat)
                (λ free. (r.unsplit seat free).0 ∙ sym (a.others seat (λ e. let z : 0 ≡ suc id = sym free ∙ e in omega arith)))
                (λ i o. All-contains (λ n. entries_of j.seat_of n (j.journal r.value) ≡ entries_of j.seat_of n k.own) (seats_of k) seat
                (All-map (λ n. entries_of j.seat_of n (j.journal r.value) ≡ entries_of j.seat_of n k.own) (λ (p : Place D). p.seat) (places_of k) a.entries) (whose seat i o).1) refl;
            desks_are = λ seat. by_owner (λ n. j.desk r.value n ≡ desk_in j.empty_desk (places_of k) n) seat (r.owner seat)
                (λ free. (r.unsplit seat free).1 ∙ sym (desk_in_none j.empty_desk (places_of k) seat (λ c d x e. let z : 0 ≡ suc id = sym free ∙ (ap r.owner (sym e) ∙ a.owns c d x) in omega arith)))
                (λ i o. desk_in_some j.empty_desk (j.desk r.value) (places_of k) seat a.desks (whose seat i o).1) refl;
          },
        )
      where
        by_owner : (P : ℕ → Type 0) (seat n : ℕ) → (r.owner seat ≡ 0 → P seat) → ((i : ℕ) → r.owner seat ≡ suc i → P seat) → r.owner seat ≡ n → P seat
        by_owner P seat zero free held is = free is
        by_owner P seat (suc i) free held is = held i is

  -- the slot of the table that the last pass closed has the value
  pub last_slot : (id : ℕ) (v : V) (k : K) (words : List ℕ) (slots : List (Option T)) (slot : Option T) → v ≡ Outside k → k.left + 1 ≡ k.seats → Final (Seen Rule id v) words slots → get_elem? slots 0 ≡ some slot
      → (value : T) × (slot ≡ Some value) × IsLast value k
  last_slot id v k words slots slot is all f there =
      let r = f.1.0 in let last = closes id k f.0 r (f.1.1 ∙ ap some is) all in
      (r.value, some-injective slot (Some r.value) (sym there ∙ f.4 0 (Some r.value) (ap (λ h. get_elem? h 0) last.0)), last.1)
