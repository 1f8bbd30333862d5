use Rattle.std.proofs.Common.{◌≡◌, ◌+◌, ◌*◌, length, ap, refl, sym, subst, ◌∙◌, arith}
use Rattle.std.specs.Prelude.{IsSome}
use Rattle.std.proofs.Math.ListN.{set}
use Rattle.ve_theory.specs.Presentations.{letter_count}
use Rattle.ve_table.specs.Sound.{IsSound, IsRowOf}
use Rattle.ve_table.specs.Tables.{row_at}
use Rattle.ve_table.specs.Changes.{with_row}
use Rattle.ve_table.specs.Kept.{table_of}
use Rattle.ve_table.proofs.Entries.{tabled}
use Rattle.ve_table.proofs.Setting.{set_place, row_set, kept_with_row, sound_rowed, has_place}
use Rattle.ve_table.proofs.table.Table.set_row.Goals as goal

pub index_mut-requires : goal.index_mut-requires
index_mut-requires c =
    let there = has_place c.self.inside c.self.invariant c.args.id c.args.letter (subst (λ T. IsSome (row_at T c.args.id c.args.letter)) (sym c.self.view_is) c.requires.exists) in
    omega (arith, there.2, set_place c.self.inside c.self.invariant c.args.id c.args.letter c.len-letters.result c.from.result (c.len-letters.ensures ∙ c.weights.result.now.ok.0 ∙ ap length c.weights.ensures) c.from.ensures, c.self.inside.rows.ok.0)

there : (c : goal.Joined-index_mut-row) → IsSome (row_at (table_of c.self.inside) c.args.id c.args.letter)
there c = subst (λ T. IsSome (row_at T c.args.id c.args.letter)) (sym c.self.view_is) c.requires.exists

its_row : (c : goal.Joined-index_mut-row) → IsRowOf (table_of c.self.inside) c.args.id c.args.letter c.args.row
its_row c = subst (λ T. IsRowOf T c.args.id c.args.letter c.args.row) (sym c.self.view_is) c.requires.row

place : (c : goal.Joined-index_mut-row) → c.args.id * c.len-letters.result + c.from.result ≡ c.args.id * letter_count c.self.inside.presentation.presentation + c.args.letter
place c = set_place c.self.inside c.self.invariant c.args.id c.args.letter c.len-letters.result c.from.result (c.len-letters.ensures ∙ c.weights.result.now.ok.0 ∙ ap length c.weights.ensures) c.from.ensures

same : (c : goal.Joined-index_mut-row) →
    tabled c.self.inside.presentation c.self.inside.level c.self.inside.images.items c.self.inside.bounds.items (set c.self.inside.rows.items (c.args.id * c.len-letters.result + c.from.result) c.args.row) c.self.inside.forwards.items c.self.inside.entries.items
    ≡ with_row (table_of c.self.inside) c.args.id c.args.letter c.args.row
same c =
    row_set c.self.inside c.self.invariant c.args.id c.args.letter (c.args.id * c.len-letters.result + c.from.result) c.args.row
    (place c) (there c)

pub returns-clause-row : goal.returns-clause-row
returns-clause-row c = same c ∙ ap (λ T. with_row T c.args.id c.args.letter c.args.row) c.self.view_is

pub returns-clause-sound : goal.returns-clause-sound
returns-clause-sound c = subst IsSound (sym (same c)) (sound_rowed (table_of c.self.inside) c.args.id c.args.letter c.args.row c.self.invariant.sound (there c) (its_row c))

pub invariant_of-self : goal.invariant_of-self
invariant_of-self c =
    kept_with_row c.self.inside _ c.self.invariant c.args.id c.args.letter (c.args.id * c.len-letters.result + c.from.result) c.args.row (place c) (there c) (its_row c) (same c) refl refl refl refl refl refl refl
