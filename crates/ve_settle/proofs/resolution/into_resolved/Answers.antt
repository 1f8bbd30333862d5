use Rattle.std.proofs.Common.{rules}
use Rattle.ve_table.specs.Sound.{HasLiveIds}
use Rattle.ve_machine.proofs.ResolvedVectors.{resolved_derived}
use Rattle.ve_settle.proofs.Resolving.{live_resolved, live_row}
use Rattle.ve_settle.proofs.resolution.into_resolved.Goals as goal

pub returns-then-has_live_ids-clause-resolved : goal.returns-then-has_live_ids-clause-resolved
returns-then-has_live_ids-clause-resolved c =
    let live : HasLiveIds c.args.table.now c.args.vector = c.has_live_ids.ensures.0 (search rules) in
    live_resolved c.args.table.now c.is_sound.ensures c.args.vector c.requires.0 live

pub returns-then-has_live_ids-clause-derived : goal.returns-then-has_live_ids-clause-derived
returns-then-has_live_ids-clause-derived c =
    let live : HasLiveIds c.args.table.now c.args.vector = c.has_live_ids.ensures.0 (search rules) in
    resolved_derived c.args.table.now c.is_sound.ensures c.args.vector c.args.vector (live_resolved c.args.table.now c.is_sound.ensures c.args.vector c.requires.0 live)

pub returns-clause-row : goal.returns-clause-row
returns-clause-row c = live_row c.args.table.now c.is_sound.ensures c.in_ok-resolved.resolved c.in_ok-resolved.ensures.resolved.reduced c.in_ok-resolved.ensures.resolved.live

pub returns-clause-derived : goal.returns-clause-derived
returns-clause-derived c = resolved_derived c.args.table.now c.is_sound.ensures c.args.vector c.in_ok-resolved.resolved c.in_ok-resolved.ensures.resolved
