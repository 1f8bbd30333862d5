-- Journals as contracts see them.
use Rattle.std.specs.Prelude.{◌≡◌, ◌≢◌, ◌==◌, ℕ, List, ◌++◌, length, nat_lt, if◌then◌else◌, All, filter}

-- the entries of one seat, in their order
abbrev pub entries_of : {E : Type 0} → (E → ℕ) → ℕ → List E → List E
entries_of seat_of seat entries = filter (λ e. seat_of e == seat) entries

-- a list begins with another
abbrev pub BeginsWith : {E : Type 0} → List E → List E → Type 0
BeginsWith {E} entries first = (more : List E) × (entries ≡ first ++ more)

-- the second list where it is the longer one, and else the first
abbrev pub longer_of : {E : Type 0} → List E → List E → List E
longer_of first second = if nat_lt (length first) (length second) then second else first

-- What a move of the seat leaves: the same opening, a journal that goes on with entries of this seat alone, and the same desks of all other seats
pub record GoesOn {T O E D : Type 0} (opening : T → O) (journal : T → List E) (seat_of : E → ℕ) (desk : T → ℕ → D) (seat : ℕ) (before after : T) : Type 0 where
  pub same_opening : opening after ≡ opening before
  pub added : List E
  pub longer : journal after ≡ journal before ++ added
  pub added_by_seat : All (λ e. seat_of e ≡ seat) added
  pub same_desks : (other : ℕ) → other ≢ seat → desk after other ≡ desk before other
