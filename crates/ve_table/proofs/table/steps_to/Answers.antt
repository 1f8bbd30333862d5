use Rattle.std.proofs.Common.{◌≡◌, ◌+◌, get_or, sym, ◌∙◌, arith, false, true}
use Rattle.std.specs.Prelude.{nat_eq}
use Rattle.std.proofs.lemmas.List.Sums.{sum_by_more, count_by-le-length}
use Rattle.ve_table.specs.declared.entry.Entry.{Entry}
use Rattle.ve_table.specs.Steps.{live_steps}
use Rattle.ve_table.proofs.Deaths.{no_entry}
use Rattle.ve_table.proofs.Stepping.{live_steps-live, live_steps-dead}
use Rattle.ve_table.proofs.table.steps_to.Goals as goal
use Rattle.ve_table.proofs.table.steps_to.Goals.{then-is_live, else-is_live}

pub loop-entry-preserved : goal.loop-entry-preserved
loop-entry-preserved c =
    let e : Entry = get_or c.args.entries.now c.loop-entry.entry-index no_entry in
    let more = sum_by_more (live_steps c.args.weights.now c.args.reach) c.args.entries.now c.loop-entry.entry-index no_entry (omega arith) in
    elim c.if-is_live.branch [
      | then-is_live w ↦
          let live = live_steps-live c.args.weights.now c.args.reach e (c.is_live.ensures.live.0 w.if-is_live.true) in
          let within = count_by-le-length (λ step. nat_eq (e.reach + step) c.args.reach) c.args.weights.now in
          record { steps_is = omega (arith, more, live, w.steps-is, w.letters_to-steps.ensures.letters, c.loop-entry.invariant.steps_is); steps_within = omega (arith, w.steps-is, w.letters_to-steps.ensures.within, c.requires.letters, c.loop-entry.invariant.steps_within) }
      | else-is_live w ↦
          let dead = live_steps-dead c.args.weights.now c.args.reach e (λ none. let bad : false ≡ true = sym w.if-is_live.false ∙ c.is_live.ensures.live.1 none in cc) in
          record { steps_is = omega (arith, more, dead, w.steps-is, c.loop-entry.invariant.steps_is); steps_within = omega (arith, w.steps-is, c.loop-entry.invariant.steps_within) }
    ]
