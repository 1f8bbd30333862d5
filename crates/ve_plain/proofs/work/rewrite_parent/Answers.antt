use Rattle.ve_plain.proofs.Going.{Continues-rewritten, parent_due, parent_within}
use Rattle.std.proofs.Common.{sym, subst}
use Rattle.ve_table.specs.Sound.{IsSound}
use Rattle.ve_plain.specs.Working.{Continues}
use Rattle.ve_plain.proofs.work.rewrite_parent.Goals as goal

pub is_live-requires : goal.is_live-requires
is_live-requires c = parent_within c.reach_adds_up.ensures c.args.table.now c.is_sound.ensures c.args.id c.in-Child.parent c.in-Child.letter c.requires c.in-Child.ensures

pub rewrite-requires : goal.rewrite-requires
rewrite-requires c =
    (c.is_sound.ensures.due c.in-Child.parent c.in-Child.letter).1
    (parent_due c.reach_adds_up.ensures c.args.table.now c.is_sound.ensures c.args.id c.in-Child.parent c.in-Child.letter c.requires c.in-Child.ensures)

pub returns-in_ok-rewrite-clause-continues : goal.returns-in_ok-rewrite-clause-continues
returns-in_ok-rewrite-clause-continues c =
    let rewrites = c.in_ok-rewrite.ensures.ok in
    subst (Continues c.args.table.now) (sym rewrites.change)
    (Continues-rewritten c.stays_under_way.ensures c.args.table.now c.in-Child.parent c.in-Child.letter rewrites.row rewrites.next rewrites.is_row rewrites.rewritten
    (subst IsSound rewrites.change c.rewrite.ensures.sound))
