-- The rule of the table. Word 0 counts the tickets drawn and word 1 the tickets served, both modulo 2^64. The slot has the value while no seat is inside.
use Rattle.std.specs.Prelude.{◌≡◌, ◌≢◌, ℕ, suc, ◌+◌, ◌%◌, ◌^◌, ◌<◌, ◌≤◌, Bool, true, false, List, [], ◌∷◌, map, All, Contains, Option, Some}
use mathlib.Core.Option.{some, none}
use mathlib.Core.Option as maybe
use lib.ListN.{get_elem?}
use Rattle.atomic_table.specs.Table.{State}
use Rattle.ve_turn.specs.declared.journaled.Journaled.{Ghosts}
use Rattle.ve_turn.specs.declared.view.Knowledge.{Knowledge}
use Rattle.ve_turn.specs.declared.view.Place.{Place}
use Rattle.ve_turn.specs.declared.view.View.{View}
use Rattle.ve_turn.specs.declared.view.View.TheVariants.{Spent, Outside, Waiting, Inside, Meeting}
use Rattle.ve_turn.specs.Journal.{entries_of, BeginsWith}
use Rattle.ve_turn.specs.Knows.{places_of}

-- f of each, added up
abbrev pub total : {A : Type 0} → (A → ℕ) → List A → ℕ
total f [] = 0
total f (x ∷ xs) = f x + total f xs

-- what is at home
abbrev pub home_of : {T : Type 0} → Bool → T → maybe.Option (Option T)
home_of true value = none
home_of false value = some (Some value)

module _ {T O E D : Type 0} where
  -- how many seats a view stands for
  abbrev pub weight : View T O E D → ℕ
  weight Spent = 0
  weight (Outside k) = k.left + 1
  weight (Waiting ticket k) = k.left + 1
  weight (Inside met k) = k.left + 1
  weight (Meeting seen k) = k.left + 1

  -- how many tickets a view has
  abbrev pub tickets : View T O E D → ℕ
  tickets (Waiting ticket k) = 1
  tickets (Inside met k) = 1
  tickets _ = 0

  -- P of what the view knows, which a spent view need not have
  abbrev pub IfLive : (Knowledge T O E D → Type 0) → View T O E D → Type 0
  IfLive P Spent = Unit {0}
  IfLive P (Outside k) = P k
  IfLive P (Waiting ticket k) = P k
  IfLive P (Inside met k) = P k
  IfLive P (Meeting seen k) = P k

  -- P of what the view knows, and it is not spent
  abbrev pub IsLive : (Knowledge T O E D → Type 0) → View T O E D → Type 0
  IsLive P Spent = ⊥
  IsLive P (Outside k) = P k
  IsLive P (Waiting ticket k) = P k
  IsLive P (Inside met k) = P k
  IsLive P (Meeting seen k) = P k

  abbrev pub seats_of : Knowledge T O E D → List ℕ
  seats_of k = map (λ (p : Place D). p.seat) (places_of k)

module _ {T O E D : Type 0} (j : Ghosts T O E D) where
  -- What the view `id` knows fits the value. A seat belongs to the view `id` where its owner is the successor of `id`, and to none where it is 0.
  -- The value has of the view's seats just the view's entries, of which none is another seat's. A view that may be split has seat 0, and the seats split so far are those not left
  pub record Agrees (seats split : ℕ) (owner : ℕ → ℕ) (value : T) (id : ℕ) (k : Knowledge T O E D) : Type 0 where
    pub same_seats : k.seats ≡ seats
    pub opening : j.opening value ≡ k.opening
    pub seen : BeginsWith (j.journal value) k.seen
    pub owns : All (λ (p : Place D). owner p.seat ≡ suc id) (places_of k)
    pub entries : All (λ (p : Place D). entries_of j.seat_of p.seat (j.journal value) ≡ entries_of j.seat_of p.seat k.own) (places_of k)
    pub desks : All (λ (p : Place D). j.desk value p.seat ≡ p.desk) (places_of k)
    pub apart : All (λ (p : Place D). p.seat ≢ k.seat) k.joined
    pub others : (seat : ℕ) → owner seat ≢ suc id → entries_of j.seat_of seat k.own ≡ []
    pub splits : k.is_met ≡ false → 0 < k.left → (k.seat ≡ 0) × (split + k.left ≡ seats)

  -- the ticket of the view `id` is one of those that wait, and a view is inside only where its ticket is served
  abbrev pub Queues : ℕ → ℕ → (ℕ → ℕ) → Bool → T → ℕ → View T O E D → Type 0
  Queues served waiting holder out value id Spent = Unit {0}
  Queues served waiting holder out value id (Outside k) = Unit {0}
  Queues served waiting holder out value id (Waiting ticket k) = (n : ℕ) × (served ≤ n) × (n < served + waiting) × (n % 2 ^ 64 ≡ ticket) × (holder n ≡ id)
  Queues served waiting holder out value id (Inside met k) = (out ≡ true) × (met ≡ value) × (0 < waiting) × (holder served ≡ id)
  Queues served waiting holder out value id (Meeting seen k) = BeginsWith (j.journal value) seen

  -- The value is the one at home or, while it is out, the one that the view inside met. So many tickets were served and so many more wait, each with its holder.
  -- The seats below `split` were split. Those that belong to a view stand in it, and the others have no entries and an empty desk
  pub record Turning (seats : ℕ) (s : State (Option T) (View T O E D)) : Type 0 where
    pub value : T
    pub served : ℕ
    pub waiting : ℕ
    pub out : Bool
    pub split : ℕ
    pub holder : ℕ → ℕ
    pub owner : ℕ → ℕ
    pub words_are : s.words ≡ (served + waiting) % 2 ^ 64 ∷ served % 2 ^ 64 ∷ []
    pub homes_are : s.homes ≡ home_of out value ∷ []
    pub someone_inside : out ≡ true → (k : Knowledge T O E D) × (get_elem? s.views (holder served) ≡ some (Inside value k))
    pub all_wait : total tickets s.views ≡ waiting
    pub all_seats : total weight s.views ≡ seats
    pub few : seats ≤ 65
    pub queues : (id : ℕ) (v : View T O E D) → get_elem? s.views id ≡ some v → Queues served waiting holder out value id v
    pub fits : (id : ℕ) (v : View T O E D) → get_elem? s.views id ≡ some v → IfLive (Agrees seats split owner value id) v
    pub owned : (seat id : ℕ) → owner seat ≡ suc id → (v : View T O E D) × (get_elem? s.views id ≡ some v) × IsLive (λ k. Contains (seats_of k) seat) v
    pub unsplit : (seat : ℕ) → owner seat ≡ 0 → (entries_of j.seat_of seat (j.journal value) ≡ []) × (j.desk value seat ≡ j.empty_desk)
    pub beyond : (seat : ℕ) → split ≤ seat → owner seat ≡ 0
