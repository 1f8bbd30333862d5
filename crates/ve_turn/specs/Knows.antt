-- What a pass knows, and how each call changes it.
use Rattle.std.specs.Prelude.{◌≡◌, ◌==◌, ℕ, ◌+◌, ◌-◌, true, false, List, [], ◌∷◌, ◌++◌, length, drop, if◌then◌else◌, All}
use Rattle.ve_turn.specs.declared.journaled.Journaled.{Ghosts}
use Rattle.ve_turn.specs.declared.view.Knowledge.{Knowledge}
use Rattle.ve_turn.specs.declared.view.Place.{Place}
use Rattle.ve_turn.specs.Journal.{entries_of, longer_of}

abbrev pub place : {D : Type 0} → ℕ → D → Place D
place seat desk = record { seat = seat; desk = desk }

-- the desk of a seat among these, or `empty` where the seat is not among them
abbrev pub desk_in : {D : Type 0} → D → List (Place D) → ℕ → D
desk_in empty [] seat = empty
desk_in empty (p ∷ ps) seat = if p.seat == seat then p.desk else desk_in empty ps seat

module _ {T O E D : Type 0} where
  -- the seats of a pass with their desks, its own seat first
  abbrev pub places_of : Knowledge T O E D → List (Place D)
  places_of k = place k.seat k.desk ∷ k.joined

  -- the new seat of a split: it has seen what the pass has seen, and has no entries and an empty desk
  abbrev pub new_seat : D → ℕ → Knowledge T O E D → Knowledge T O E D
  new_seat empty seat k = record k { seat = seat; left = 0; is_met = false; own = []; desk = empty; joined = [] }

  -- two passes made one: the first, with the longer journal and the seats and entries of both
  abbrev pub met_of : Knowledge T O E D → Knowledge T O E D → Knowledge T O E D
  met_of first second = record first {
    left = first.left + second.left + 1;
    is_met = true;
    seen = longer_of first.seen second.seen;
    own = first.own ++ second.own;
    joined = first.joined ++ places_of second;
  }

module _ {T O E D : Type 0} (j : Ghosts T O E D) where
  -- the first pass, of the seat 0
  abbrev pub opening_knowledge : T → ℕ → Knowledge T O E D
  opening_knowledge value seats = record {
    seats = seats;
    seat = 0;
    left = seats - 1;
    is_met = false;
    opening = j.opening value;
    seen = [];
    own = [];
    desk = j.empty_desk;
    joined = [];
    laid = value;
  }

  -- after a turn that met one value and laid back another
  abbrev pub after_turn : T → T → Knowledge T O E D → Knowledge T O E D
  after_turn met value k = record k { seen = j.journal value; own = k.own ++ drop (length (j.journal met)) (j.journal value); desk = j.desk value k.seat; laid = value }

  -- of each of these seats, the value has the entries that `own` has
  abbrev pub HasEntries : T → List E → List (Place D) → Type 0
  HasEntries value own places = All (λ p. entries_of j.seat_of p.seat (j.journal value) ≡ entries_of j.seat_of p.seat own) places

  -- each of these seats has its desk in the value
  abbrev pub HasDesks : T → List (Place D) → Type 0
  HasDesks value places = All (λ p. j.desk value p.seat ≡ p.desk) places
