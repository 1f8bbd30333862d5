-- A table whose rows are all there is taken apart.
use Rattle.std.proofs.Common.{◌≡◌, ℕ, ◌*◌, ◌<◌, inl, inr, Some, List, length, map, get_or, refl, sym, ap, subst, ◌∙◌, arith, Vec, Global}
use Rattle.std.specs.Prelude.{slice_get}
use Rattle.std.proofs.lemmas.Bool.{cases_lt}
use Rattle.std.proofs.lemmas.List.{length-map}
use Rattle.std.proofs.lemmas.Option.{slice_get_within, slice_get-map, slice_get_cases}
use Rattle.std.specs.Option.{option_map}
use Rattle.ve_theory.specs.Presentations.{letter_count}
use Rattle.ve_theory.specs.Answers.{Row}
use Rattle.ve_table.specs.declared.origin.Origin.{Origin}
use Rattle.ve_table.specs.declared.entry.Entry.{Entry}
use Rattle.ve_table.specs.declared.table.Table.TheInside.{Inside}
use Rattle.ve_table.specs.Tables.{word_at}
use Rattle.ve_table.specs.Books.{IsOriginOf}
use Rattle.ve_table.specs.Kept.{IsKept, table_of}
use Rattle.ve_table.specs.ByLetter.{AreDealt, AreRowsOfLetter}
use Rattle.ve_table.specs.Parts.{HasAllRows, AreOrigins, AreRowsAt, ArePartsOf}
use Rattle.ve_table.proofs.Entries.{one_entry_each, row_here, row_bounded, same_some}
use Rattle.ve_table.proofs.Listed.{at_place}

module _ (t : Inside) (kept : IsKept t) where
  abbrev letters : ℕ
  letters = letter_count t.presentation.presentation

  origins_taken : (origins : List Origin) → origins ≡ map (λ (e : Entry). e.origin) t.entries.items → AreOrigins (table_of t) origins
  origins_taken origins are = record {
    count = ap length are ∙ length-map t.entries.items (λ (e : Entry). e.origin) ∙ one_entry_each t kept;
    each = each;
  }
    where
      each : (b : ℕ) (o : Origin) → slice_get origins b ≡ Some o → IsOriginOf (table_of t).words b o (word_at (table_of t) b)
      each b o found = elim (slice_get_cases t.entries.items b).1 [
        | inl (e, within, at, value) ↦
            let same : e.origin ≡ o = same_some e.origin o (sym (ap (option_map (λ (e : Entry). e.origin)) at) ∙ sym (slice_get-map (λ (e : Entry). e.origin) t.entries.items b) ∙ sym (ap (λ l. slice_get l b) are) ∙ found) in
            subst (λ p. IsOriginOf (table_of t).words b p (word_at (table_of t) b)) same (kept.entries b e at).origin
        | inr (past, none) ↦
            absurd (omega (arith, past, ap length are, length-map t.entries.items (λ (e : Entry). e.origin), slice_get_within origins b o found))
      ]

  module _ (all : HasAllRows (table_of t)) where
    below : (b x : ℕ) → b < length t.entries.items → x < letters → b < get_or t.bounds.items x 0
    below b x id letter = row_bounded t b x (all b x (omega (arith, id, one_entry_each t kept)) letter)

    pub all_places : length t.rows.items ≡ length t.entries.items * letters
    all_places = elim (cases_lt (length t.rows.items) (length t.entries.items * letters)) [
      | inl fewer ↦
          let at = at_place letters (length t.entries.items) (length t.rows.items) fewer in
          let inside = kept.places at.0 at.1 at.3 (below at.0 at.1 at.2 at.3) in
          absurd (omega (arith, inside, at.4))
      | inr past ↦ omega (arith, past, kept.few_places)
    ]

    rows_taken : (ids : ℕ) (lists : List (Vec Row Global)) → ids ≡ length t.entries.items → AreDealt letters ids 0 t.rows.items lists → (x : ℕ) (list : Vec Row Global) → slice_get lists x ≡ Some list → AreRowsAt (table_of t) x list.items
    rows_taken ids lists count dealt x list found =
        let letter : x < letters = omega (arith, slice_get_within lists x list found, dealt.count) in
        let rows : AreRowsOfLetter letters ids x t.rows.items list.items = dealt.rest x list found (omega arith) in
        record {
          count = rows.count ∙ count ∙ one_entry_each t kept;
          each = λ b v at.
              let id : b < length t.entries.items = omega (arith, slice_get_within list.items b v at, rows.count, count) in
              row_here t kept b x letter (below b x id letter) ∙ ap Some (rows.each b v at);
        }

    pub parts_taken : (origins : Vec Origin Global) (rows : Vec (Vec Row Global) Global) → origins.items ≡ map (λ (e : Entry). e.origin) t.entries.items
        → {ids : ℕ} → AreDealt letters ids 0 t.rows.items rows.items → ids ≡ length t.entries.items
        → ArePartsOf (table_of t) (record { presentation = t.presentation; level = t.level; origins = origins; images = t.images; rows = rows })
    parts_taken origins rows origins_are {ids} dealt count = record {
      draft = refl;
      level = refl;
      few = omega (arith, kept.count, one_entry_each t kept);
      origins = origins_taken origins.items origins_are;
      images = refl;
      letters = dealt.count;
      rows = rows_taken ids rows.items count dealt;
    }
