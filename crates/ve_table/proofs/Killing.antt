-- A live id dies.
use Rattle.std.proofs.Common.{◌≡◌, ℕ, zero, suc, ◌-◌, ◌⊎◌, inl, inr, Some, None, List, [], ◌∷◌, ◌++◌, length, map, get_or, refl, ap, subst, ◌∙◌, arith}
use Rattle.std.specs.Prelude.{Option, slice_get}
use Rattle.std.proofs.Math.ListN.{set}
use Rattle.std.proofs.Math.Seq.{map-set_same}
use Rattle.std.proofs.lemmas.List.{length-set}
use Rattle.ve_theory.specs.Words.{Word}
use Rattle.ve_theory.specs.Answers.{Row}
use Rattle.ve_table.specs.Tables.{ActionTable, IsLive, of_live, live_words}
use Rattle.ve_table.specs.Sound.{IsSound, IsForwardOf, StandsFor}
use Rattle.ve_table.specs.Changes.{with_forward}
use Rattle.ve_table.specs.Kept.{IsEntryOf, IsKept, table_of}
use Rattle.ve_table.specs.declared.table.Table.TheInside.{Inside}
use Rattle.ve_table.proofs.Deaths.{forwards_killed}
use Rattle.ve_table.proofs.Entries.{same_some, tabled}
use Rattle.ve_table.specs.declared.entry.Entry.{Entry}

-- what a list has at a place after a write
pub read_set : {X : Type 0} (xs : List X) (b c : ℕ) (new found : X) → slice_get (set xs b new) c ≡ Some found → ((b ≡ c) × (new ≡ found)) ⊎ (slice_get xs c ≡ Some found)
read_set [] b c new found is = inr is
read_set (x ∷ xs) zero zero new found is = inl (refl, same_some new found is)
read_set (x ∷ xs) zero (suc c) new found is = inr is
read_set (x ∷ xs) (suc b) zero new found is = inr is
read_set (x ∷ xs) (suc b) (suc c) new found is = elim (read_set xs b c new found is) [ inl (same, there) ↦ inl (ap suc same, there) | inr there ↦ inr there ]

-- one live id less
pub one_less : {X : Type 0} (forwards : List (Option Row)) (xs : List X) (b : ℕ) (v : Row) → length forwards ≡ length xs → slice_get forwards b ≡ Some None
    → suc (length (of_live (set forwards b (Some v)) xs)) ≡ length (of_live forwards xs)
unfolding of_live
one_less [] xs b v same live = absurd (no_some None live)
  where
    no_some : (f : Option Row) → None ≡ Some f → ⊥
    no_some f is = cc
one_less (f ∷ forwards) [] b v same live = absurd (omega (arith, same))
one_less (f ∷ forwards) (x ∷ xs) zero v same live = rw (same_some f None live) refl
one_less (None ∷ forwards) (x ∷ xs) (suc b) v same live = ap suc (one_less forwards xs b v (omega (arith, same)) live)
one_less (Some w ∷ forwards) (x ∷ xs) (suc b) v same live = one_less forwards xs b v (omega (arith, same)) live

-- the table with another forward at an id
pub killed : (t : Inside) → IsKept t → (b : ℕ) (e d : Entry) (v : Row) (death : ℕ) (forwards : List Row) → e ≡ get_or t.entries.items b d → forwards ≡ t.forwards.items ++ v ∷ [] → death ≡ suc (length t.forwards.items)
    → tabled t.presentation t.level t.images.items t.bounds.items t.rows.items forwards (set t.entries.items b (record e { death = death })) ≡ with_forward (table_of t) b v
killed t kept b e d v death forwards e_is forwards_are death_is =
    let new : Entry = record e { death = death } in
    let same_origins : map (λ (e : Entry). e.origin) (set t.entries.items b new) ≡ map (λ (e : Entry). e.origin) t.entries.items =
    map-set_same (λ (e : Entry). e.origin) t.entries.items b new d (ap (λ (e : Entry). e.origin) e_is) in
    rw (same_origins, length-set t.entries.items b new, forwards_are, forwards_killed t.forwards.items v t.entries.items b new kept.own_forwards.deaths death_is) refl

-- a table with one more dead id is sound
pub sound_killed : (T : ActionTable) (b : ℕ) (v : Row) → IsSound T → IsForwardOf T b v → IsSound (with_forward T b v)
sound_killed T b v sound is_forward = record {
  valid = sound.valid;
  words = sound.words;
  rising = sound.rising;
  prefixes = sound.prefixes;
  one_forward_each = length-set T.forwards b (Some v) ∙ sound.one_forward_each;
  one_row_list_each = sound.one_row_list_each;
  one_place_each = sound.one_place_each;
  one_image_each = sound.one_image_each;
  forwards = λ c u found.
      elim (read_set T.forwards b c (Some v) (Some u) found) [
        | inl (same, there) ↦ moved c u (subst (λ n. IsForwardOf T n u) same (subst (λ w. IsForwardOf T b w) (same_some v u there) is_forward))
        | inr there ↦ moved c u (sound.forwards c u there)
      ];
  due = sound.due;
  rows = λ c x u found. let row = sound.rows c x u found in record { stands = stood row.stands; not_after = row.not_after };
  images = λ i u found. let image = sound.images i u found in record { stands = stood image.stands; not_after = image.not_after };
}
  where
    stood : {w : Word} {u : Row} → StandsFor T w u → StandsFor (with_forward T b v) w u
    stood stands = record { row = stands.row; derived = stands.derived }

    moved : (c : ℕ) (u : Row) → IsForwardOf T c u → IsForwardOf (with_forward T b v) c u
    moved c u forward = record { stands = stood forward.stands; below = forward.below }

kept_entry : (T : ActionTable) (b c : ℕ) (v : Row) (f : Entry) → IsEntryOf T c f → IsEntryOf (with_forward T b v) c f
kept_entry T b c v f own = record { origin = own.origin; own_reach = own.own_reach; own_length = own.own_length }

pub kept_entries : (T : ActionTable) (items : List Entry) (b : ℕ) (v : Row) (new : Entry) → ((c : ℕ) (f : Entry) → slice_get items c ≡ Some f → IsEntryOf T c f) → IsEntryOf T b new
    → (c : ℕ) (f : Entry) → slice_get (set items b new) c ≡ Some f → IsEntryOf (with_forward T b v) c f
kept_entries T items b v new each own c f found =
    kept_entry T b c v f
    (elim (read_set items b c new f found) [
      | inl (same_id, same_entry) ↦ subst (λ n. IsEntryOf T n f) same_id (subst (λ g. IsEntryOf T b g) same_entry own)
      | inr there ↦ each c f there
    ])

pub live_killed : (T : ActionTable) (b live : ℕ) (v : Row) → length T.forwards ≡ length T.words → IsLive T b → live ≡ length (live_words T) → live - 1 ≡ length (live_words (with_forward T b v))
live_killed T b live v same is_live count = let less = one_less T.forwards T.words b v same is_live in omega (arith, less, count)
