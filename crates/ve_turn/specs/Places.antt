-- Where a seat stands, as the table tells it.
use Rattle.std.specs.Prelude.{◌≡◌, ℕ, List, [], ◌∷◌, Option, None}
use Rattle.std.specs.Coded.{Coded, Coded-set}
use mathlib.Core.HLevel.{Σ_prop_path}
use mathlib.Core.Path.{sym, ap, ◌∙◌}
use Rattle.atomic_table.specs.Seated.{TableId}
use Rattle.atomic_table.specs.declared.shared.Seat.{Seat}
use Rattle.ve_turn.specs.declared.view.Knowledge.{Knowledge}
use Rattle.ve_turn.specs.declared.view.View.{View}
use Rattle.ve_turn.specs.declared.view.View.TheVariants.{Spent, Outside, Waiting, Inside, Meeting}

abbrev pub Token : Type 0 → Type 0 → Type 0 → Type 0 → Type 0
Token T O E D = Seat (Option T) (View T O E D)

module _ {T O E D : Type 0} where
  -- what the seat knows, or k where it is spent
  abbrev pub known_or : Knowledge T O E D → View T O E D → Knowledge T O E D
  known_or k Spent = k
  known_or k (Outside l) = l
  known_or k (Waiting ticket l) = l
  known_or k (Inside met l) = l
  known_or k (Meeting seen l) = l

  abbrev pub met_or : T → View T O E D → T
  met_or x (Inside met l) = met
  met_or x _ = x

  -- the token steps on this table, which has two words and one slot
  abbrev pub IsFor : TableId → Token T O E D → Type 0
  IsFor table s = (s.table_id ≡ table) × (table.words ≡ 2) × (table.slots ≡ 1)

  -- the token with this view, and these slots in hand
  abbrev pub posed : Token T O E D → View T O E D → List (ℕ × Option T) → Token T O E D
  posed s v carried = record s { me = (v, carried) }

  abbrev pub IsOutside : Token T O E D → Knowledge T O E D → Type 0
  IsOutside s k = s ≡ posed s (Outside k) []

  abbrev pub IsInside : Token T O E D → T × Knowledge T O E D → Type 0
  IsInside s known = s ≡ posed s (Inside known.0 known.1) ((0, None) ∷ [])

  pub outside-prop : Coded (Token T O E D) → (s : Token T O E D) → IsProp ((k : Knowledge T O E D) × IsOutside s k)
  outside-prop c s x y = Σ_prop_path (λ k. Coded-set c _ _) (ap (λ (t : Token T O E D). known_or x.0 t.me.0) (sym x.1 ∙ y.1))

  pub inside-prop : Coded (Token T O E D) → (s : Token T O E D) → IsProp ((known : T × Knowledge T O E D) × IsInside s known)
  inside-prop c s x y = Σ_prop_path (λ k. Coded-set c _ _) (ap (λ (t : Token T O E D). (met_or x.0.0 t.me.0, known_or x.0.1 t.me.0)) (sym x.1 ∙ y.1))
