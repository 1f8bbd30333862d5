use Rattle.std.proofs.Common.{◌≡◌, ℕ, List, get_or, ap, sym, subst, ◌∙◌, arith}
use Rattle.std.proofs.lemmas.List.{with_items_is}
use Rattle.ve_theory.specs.Answers.{Row}
use Rattle.ve_table.specs.declared.entry.Entry.{Entry}
use Rattle.ve_table.specs.Deaths.{is_live_entry}
use Rattle.ve_table.specs.Rows.{AreLiveRows, AreMoved}
use Rattle.ve_table.proofs.Deaths.{no_entry}
use Rattle.ve_table.proofs.LiveRows.{start, finish, step_dead, step_live, stays}
use Rattle.ve_table.proofs.rows.keep_live_rows.Goals as goal
use Rattle.ve_table.proofs.rows.keep_live_rows.Goals.{then-is_live, then-kept-id, else-kept-id, else-is_live}

pub loop-id-init : goal.loop-id-init
loop-id-init c = start c.args.letters c.args.entries.now c.args.rows.now.items c.args.least c.requires.bound c.requires.live

pub loop-id-preserved : goal.loop-id-preserved
loop-id-preserved c =
    let n : ℕ = c.args.letters in
    let es : List Entry = c.args.entries.now in
    let i : ℕ = c.loop-id.id in
    let k : ℕ = c.loop-id.kept in
    let now : List Row = c.loop-id.rows.items in
    let d : Entry = no_entry in
    let so_far = c.loop-id.invariant in
    let here : is_live_entry (get_or es i d) ≡ c.is_live.result = sym c.is_live.ensures.value in
    elim c.if-is_live.branch [
      | then-is_live w ↦
          let moved : AreMoved n i k now w.if-kept-id.rows.items = elim w.if-kept-id.branch [
            | then-kept-id w' ↦
                let items : w.if-kept-id.rows.items ≡ w'.move_rows.new.rows = ap (λ v. v.items) w'.rows-is ∙ with_items_is c.loop-id.rows w'.move_rows.new.rows (w'.move_rows.ensures.count ∙ w'.as_mut_slice.ensures.len) in
                subst (AreMoved n i k now) (sym items) (subst (λ l. AreMoved n i k l w'.move_rows.new.rows) w'.as_mut_slice.ensures.value w'.move_rows.ensures)
            | else-kept-id w' ↦
                let same : i ≡ k = omega (arith, w'.if-kept-id.false, so_far.kept_few) in
                rw w'.rows-is (subst (λ m. AreMoved n i m now now) same (stays n i now))
          ] in
          rw (w.kept-is, w.rows-is) (step_live n es c.args.rows.now.items now w.if-kept-id.rows.items i k d so_far c.loop-id-test.true (here ∙ w.if-is_live.true) moved)
      | else-is_live w ↦
          rw (w.kept-is, w.rows-is) (step_dead n es c.args.rows.now.items now i k d so_far c.loop-id-test.true (here ∙ w.if-is_live.false))
    ]

pub returns : goal.returns
returns c =
    subst (AreLiveRows c.args.letters c.args.entries.now c.args.rows.now.items) (sym c.truncate.ensures.items)
    (finish c.args.letters c.args.entries.now c.args.rows.now.items c.loop-id.rows.items c.loop-id.id c.loop-id.kept c.loop-id.invariant c.loop-id-test.false)
