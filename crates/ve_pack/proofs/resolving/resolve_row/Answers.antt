use Rattle.std.proofs.Common.{◌≡◌, Some, sym, subst, ◌∙◌}
use Rattle.ve_theory.specs.Words.{times}
use Rattle.ve_table.specs.Tables.{ActionTable, word_at}
use Rattle.ve_table.specs.Sound.{IsSound, HasLiveIds}
use Rattle.ve_machine.specs.Finished.{IsFinishedTable}
use Rattle.ve_pack.specs.Packing.{IsPartlyResolved}
use Rattle.ve_pack.specs.LiveVectors.{HasLiveRow}
use Rattle.ve_pack.proofs.Steps.{row_resolved, row_set_here}
use Rattle.ve_pack.proofs.resolving.resolve_row.Goals as goal

pub has_live_ids-requires-clause-ids : goal.has_live_ids-requires-clause-ids
has_live_ids-requires-clause-ids c = (c.requires.finished.sound.rows c.args.id c.args.letter c.in-Some.row.now (sym c.in-Some.ensures)).stands.row.1

pub resolve-requires : goal.resolve-requires
resolve-requires c = (c.requires.finished.sound.rows c.args.id c.args.letter c.in-Some.row.now (sym c.in-Some.ensures)).stands.row

pub set_row-requires-clause-row : goal.set_row-requires-clause-row
set_row-requires-clause-row c =
    let T : ActionTable = c.args.table.now in
    let sound = c.requires.finished.sound in
    c.resolutions_keep_words.ensures T (times (word_at T c.args.id) c.args.letter) c.in-Some.row.now c.in_ok-resolved.resolved sound
    (sound.rows c.args.id c.args.letter c.in-Some.row.now (sym c.in-Some.ensures)) c.in_ok-resolved.ensures.resolved

pub returns-clause-finished : goal.returns-clause-finished
returns-clause-finished c =
    subst IsFinishedTable (sym c.set_row.ensures.row)
    (c.stays_finished.ensures.rows c.args.table.now c.args.id c.args.letter c.in-Some.row.now c.in_ok-resolved.resolved c.requires.finished (sym c.in-Some.ensures)
    c.in_ok-resolved.ensures.resolved (subst IsSound c.set_row.ensures.row c.set_row.ensures.sound))

pub returns-clause-resolved : goal.returns-clause-resolved
returns-clause-resolved c =
    subst (IsPartlyResolved c.args.table.now) (sym c.set_row.ensures.row)
    (row_resolved c.args.table.now c.args.id c.args.letter c.in-Some.row.now c.in_ok-resolved.resolved (sym c.in-Some.ensures) c.in_ok-resolved.ensures.resolved)

pub returns-clause-live : goal.returns-clause-live
returns-clause-live c =
    subst (λ N. HasLiveRow N c.args.id c.args.letter) (sym c.set_row.ensures.row)
    (λ v there.
    let same : c.in_ok-resolved.resolved ≡ v =
    let e : Some c.in_ok-resolved.resolved ≡ Some v = sym (row_set_here c.args.table.now c.args.id c.args.letter c.in-Some.row.now c.in_ok-resolved.resolved (sym c.in-Some.ensures)) ∙ there in cc in
    subst (HasLiveIds c.args.table.now) same c.in_ok-resolved.ensures.resolved.live)
