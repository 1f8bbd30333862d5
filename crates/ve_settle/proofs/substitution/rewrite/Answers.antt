use Rattle.std.proofs.Common.{rules, IsTrue}
use Rattle.ve_table.specs.Tables.{presented}
use Rattle.ve_settle.proofs.Rewriting.{nothing_rewritten, rewritten_row}
use Rattle.ve_settle.proofs.substitution.rewrite.Goals as goal

pub has_live_ids-requires : goal.has_live_ids-requires
has_live_ids-requires c = (c.is_sound.ensures.rows _ _ _ c.row_of-row.ensures).stands.row.1

pub rewritten-requires : goal.rewritten-requires
rewritten-requires c = (c.is_sound.ensures.rows _ _ _ c.row_of-row.ensures).stands.row

pub returns-then-has_live_ids-clause-ok : goal.returns-then-has_live_ids-clause-ok
returns-then-has_live_ids-clause-ok c =
    nothing_rewritten c.args.table.now c.args.id c.args.letter c.row_of-row.result.now c.is_sound.ensures c.row_of-row.ensures (c.has_live_ids.ensures.0 (search rules))

pub set_row-requires-clause-row : goal.set_row-requires-clause-row
set_row-requires-clause-row c =
    rewritten_row c.args.table.now c.is_sound.ensures (c.words_are_ordered.ensures (presented c.args.table.now) c.is_sound.ensures.valid.presentation)
    c.args.id c.args.letter c.row_of-row.result.now c.in_ok-next.next c.row_of-row.ensures c.in_ok-next.ensures

pub returns-clause-ok : goal.returns-clause-ok
returns-clause-ok c = record {
  row = c.row_of-row.result.now;
  is_row = c.row_of-row.ensures;
  next = c.in_ok-next.next;
  rewritten = c.in_ok-next.ensures;
  change = c.set_row.ensures.row;
  settled = (λ none. cc, λ live. let answered : IsTrue c.has_live_ids.result = c.has_live_ids.ensures.1 live in search rules);
  same = λ none. cc;
}
