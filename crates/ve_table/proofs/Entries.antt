-- What the entry of an id says.
use Rattle.std.proofs.Common.{◌≡◌, ℕ, ◌+◌, ◌*◌, ◌<◌, ◌≤◌, inl, inr, Some, None, List, [], ◌∷◌, length, map, get_or, refl, sym, ap, subst, ◌∙◌, arith}
use Rattle.std.specs.Option.{option_map, unwrap_or}
use Rattle.std.specs.Prelude.{Option, IsSome, slice_get}
use Rattle.std.proofs.lemmas.Option.{slice_get-map, slice_get-get_or}
use Rattle.std.proofs.lemmas.Bool.{cases_lt}
use Rattle.std.proofs.lemmas.List.{length-map, get_or_default}
use Rattle.ve_theory.specs.Answers.{Row}
use Rattle.ve_table.specs.Tables.{ActionTable, presented, reach_at, row_at, IsId}
use Rattle.ve_theory.specs.Presentations.{letter_count, step}
use Rattle.ve_pres.specs.Drafts.{Draft}
use Rattle.ve_table.specs.Books.{words_of}
use Rattle.ve_table.specs.Rows.{listed}
use Rattle.ve_table.specs.Kept.{IsKept, IsEntryOf, table_of}
use Rattle.ve_table.specs.Rows.{AreBounds}
use Rattle.ve_table.specs.Deaths.{forward_of, forwards_of}
use Rattle.ve_table.specs.Sound.{IsSound}
use Rattle.ve_table.proofs.Listed.{row_in, Agree, AreBelow, listed_agrees, listed_are_below, listed_below, listed_past, listed_bounded, no_id}
use Rattle.ve_table.specs.declared.entry.Entry.{Entry}
use Rattle.ve_table.specs.declared.table.Table.TheInside.{Inside}

-- there are as many entries as words
pub one_entry_each : (t : Inside) → IsKept t → length t.entries.items ≡ length (table_of t).words
one_entry_each t kept = sym (length-map t.entries.items (λ (e : Entry). forward_of t.forwards.items e.death)) ∙ kept.sound.one_forward_each

pub has_entry : (t : Inside) → IsKept t → (b : ℕ) → IsId (table_of t) b → b < length t.entries.items
has_entry t kept b id = omega (arith, id, one_entry_each t kept)

-- the entry at an id is the id's
pub entry_here : (t : Inside) → IsKept t → (b : ℕ) (e : Entry) → IsId (table_of t) b → e ≡ get_or t.entries.items b e → slice_get t.entries.items b ≡ Some e
entry_here t kept b e id e_is = slice_get-get_or t.entries.items b e (has_entry t kept b id) ∙ ap Some (sym e_is)

pub entry_of : (t : Inside) → IsKept t → (b : ℕ) (e : Entry) → IsId (table_of t) b → e ≡ get_or t.entries.items b e → IsEntryOf (table_of t) b e
entry_of t kept b e id e_is = kept.entries b e (entry_here t kept b e id e_is)

pub forward_here : (t : Inside) (b : ℕ) (e : Entry) → slice_get t.entries.items b ≡ Some e → slice_get (table_of t).forwards b ≡ Some (forward_of t.forwards.items e.death)
forward_here t b e e_is = slice_get-map (λ (e : Entry). forward_of t.forwards.items e.death) t.entries.items b ∙ ap (option_map (λ (e : Entry). forward_of t.forwards.items e.death)) e_is

pub same_some : {X : Type 0} (a b : X) → Some a ≡ Some b → a ≡ b
same_some a b same = ap (λ o. unwrap_or o a) same

-- the table of lists
abbrev pub tabled : Draft → ℕ → List Row → List ℕ → List Row → List Row → List Entry → ActionTable
tabled draft level images bounds rows forwards items = record {
  draft = draft;
  level = level;
  words = words_of (map (λ (e : Entry). e.origin) items);
  forwards = forwards_of forwards items;
  rows = listed (letter_count draft.presentation) (length items) bounds rows;
  images = images;
}

-- rows at letters

pub rows_agree : (t : Inside) → IsKept t → Agree (letter_count t.presentation.presentation) t.rows.items (table_of t).rows
rows_agree t kept = listed_agrees (letter_count t.presentation.presentation) (length t.entries.items) t.bounds.items t.rows.items kept.bounds kept.one_bound_each kept.rest

pub rows_below : (t : Inside) → AreBelow (letter_count t.presentation.presentation) (length t.entries.items) t.bounds.items (table_of t).rows
rows_below t = listed_are_below (letter_count t.presentation.presentation) (length t.entries.items) t.bounds.items t.rows.items

pub row_here : (t : Inside) → IsKept t → (b x : ℕ) → x < letter_count t.presentation.presentation → b < get_or t.bounds.items x 0 → row_at (table_of t) b x ≡ Some (get_or t.rows.items (b * letter_count t.presentation.presentation + x) [])
row_here t kept b x letter lt =
    let id : b < length t.entries.items = (let le = kept.bounds x 0 (omega (arith, letter, kept.one_bound_each)) in omega (arith, lt, le)) in
    listed_below (letter_count t.presentation.presentation) (length t.entries.items) t.bounds.items t.rows.items b x id letter lt

pub no_row_here : (t : Inside) (b x : ℕ) → get_or t.bounds.items x 0 ≤ b → row_at (table_of t) b x ≡ None
no_row_here t b x past = listed_past (letter_count t.presentation.presentation) (length t.entries.items) t.bounds.items t.rows.items b x past

pub row_bounded : (t : Inside) (b x : ℕ) → IsSome (row_at (table_of t) b x) → b < get_or t.bounds.items x 0
row_bounded t b x some = listed_bounded (letter_count t.presentation.presentation) (length t.entries.items) t.bounds.items t.rows.items b x some

-- ids below bounds by what is due
pub below_due : (U : ActionTable) (items : List Entry) (bounds : List ℕ) → IsSound U → length items ≡ length U.words → ((b : ℕ) (e : Entry) → slice_get items b ≡ Some e → IsEntryOf U b e) → AreBounds (presented U).weights U.level items bounds
    → AreBelow (letter_count (presented U)) (length items) bounds U.rows
below_due U items bounds sound count each are b x id letter =
    let e : Entry = get_or items b (first items b id) in
    let found : slice_get items b ≡ Some e = slice_get-get_or items b (first items b id) id in
    let inside : x < length (presented U).weights = omega (arith, letter, sound.valid.presentation.one_weight_each) in
    let due = are.due b x e found inside in
    let reach_is : e.reach ≡ reach_at U b = (each b e found).own_reach in
    let step_is : get_or (presented U).weights x 0 ≡ step (presented U) x = get_or_default (presented U).weights x 0 1 inside in (
      λ some. let is = (sound.due b x).0 some in due.1 (omega (arith, is.2, reach_is, step_is)),
      λ lt. let le = due.0 lt in (sound.due b x).1 (omega (arith, id, count), letter, omega (arith, le, reach_is, step_is)),
    )
  where
    first : (items : List Entry) (b : ℕ) → b < length items → Entry
    first [] b lt = absurd (omega (arith, lt))
    first (e ∷ items) b lt = e

-- other places are zero
pub zero_past : (n ids : ℕ) (bounds : List ℕ) (rows : List Row) (lists : List (List (Option Row))) → length lists ≡ ids → Agree n rows lists → AreBelow n ids bounds lists → (b x : ℕ) → x < n → get_or bounds x 0 ≤ b → get_or rows (b * n + x) [] ≡ []
zero_past n ids bounds rows lists count agree below b x letter past = agree b x letter ∙ ap (λ o. unwrap_or o []) (none (row_in lists b x) refl)
  where
    none : (o : Option Row) → row_in lists b x ≡ o → row_in lists b x ≡ None
    none None is = is
    none (Some v) is =
        elim (cases_lt b ids) [
          | inl id ↦ let lt = (below b x id letter).0 (subst IsSome (sym is) refl) in absurd (omega (arith, lt, past))
          | inr le ↦ no_id lists b x (omega (arith, le, count))
        ]
