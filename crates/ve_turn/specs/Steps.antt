-- What each step on the table tells its caller, and how views are cut and joined.
use Rattle.std.specs.Prelude.{◌≡◌, ◌≢◌, ℕ, ◌-◌, ◌<◌, ◌≤◌, List, [], ◌∷◌, Option, Some}
use Rattle.atomic_table.specs.Table.{Me, Step}
use Rattle.ve_turn.specs.declared.journaled.Journaled.{Ghosts}
use Rattle.ve_turn.specs.declared.view.Knowledge.{Knowledge}
use Rattle.ve_turn.specs.declared.view.View.{View}
use Rattle.ve_turn.specs.declared.view.View.TheVariants.{Spent, Outside, Waiting, Inside, Meeting}
use Rattle.ve_turn.specs.Journal.{BeginsWith, longer_of}
use Rattle.ve_turn.specs.Knows.{places_of, after_turn, met_of, new_seat, HasEntries, HasDesks}

abbrev pub Sat : Type 0 → Type 0 → Type 0 → Type 0 → Type 0
Sat T O E D = Me (Option T) (View T O E D)

module _ {T O E D : Type 0} where
  -- the seat has the ticket that it found
  abbrev pub drawn : Step (Option T) → Sat T O E D → ℕ → Sat T O E D → Type 0
  drawn st me found now = (k : Knowledge T O E D) → me ≡ (Outside k, []) → now ≡ (Waiting found k, [])

  -- the seat has seen the longer of two journals, which begins with both. It stands for no more seats than there are
  abbrev pub Settles : List E → Knowledge T O E D → Sat T O E D → Type 0
  Settles seen k now =
      (now ≡ (Outside (record k { seen = longer_of k.seen seen }), [])) × BeginsWith (longer_of k.seen seen) k.seen × BeginsWith (longer_of k.seen seen) seen × (k.left < k.seats) × (k.seats ≤ 65)

  abbrev pub settled : Step (Option T) → Sat T O E D → ℕ → Sat T O E D → Type 0
  settled st me found now = (seen : List E) (k : Knowledge T O E D) → me ≡ (Meeting seen k, []) → Settles seen k now

  -- one seat less is left
  abbrev pub first_cut : View T O E D → View T O E D
  first_cut (Outside k) = Outside (record k { left = k.left - 1 })
  first_cut v = v

  abbrev pub second_cut : D → View T O E D → View T O E D
  second_cut empty (Outside k) = Outside (new_seat empty (k.seats - k.left) k)
  second_cut empty v = Spent

  -- two passes made one, before the first learns which journal is longer
  abbrev pub unsettled : Knowledge T O E D → Knowledge T O E D → Knowledge T O E D
  unsettled first second = record (met_of first second) { seen = first.seen }

  -- the second pass goes into the first
  abbrev pub glued : View T O E D → View T O E D → View T O E D
  glued (Outside first) (Outside second) = Meeting second.seen (unsettled first second)
  glued v w = v

module _ {T O E D : Type 0} (j : Ghosts T O E D) where
  -- the value has all that is known of it
  abbrev pub Meets : T → Knowledge T O E D → Type 0
  Meets x k = (j.opening x ≡ k.opening) × BeginsWith (j.journal x) k.seen × HasEntries j x k.own (places_of k) × HasDesks j x (places_of k)

  -- the seat is inside and has the slot
  abbrev pub HasEntered : Knowledge T O E D → Sat T O E D → Type 0
  HasEntered k now = (x : T) × (now ≡ (Inside x k, (0, Some x) ∷ [])) × Meets x k

  -- the seat enters exactly where its ticket is served
  abbrev pub looked : Step (Option T) → Sat T O E D → ℕ → Sat T O E D → Type 0
  looked st me found now = (ticket : ℕ) (k : Knowledge T O E D) → me ≡ (Waiting ticket k, [])
      → (found ≡ ticket → HasEntered k now)
      × (found ≢ ticket → now ≡ me)

  -- the slot is at home again, and the seat has seen what it laid back
  abbrev pub moved_on : Step (Option T) → Sat T O E D → ℕ → Sat T O E D → Type 0
  moved_on st me found now = (met x : T) (k : Knowledge T O E D) → me ≡ (Inside met k, (0, Some x) ∷ []) → now ≡ (Outside (after_turn j met x k), [])
