use Rattle.std.proofs.Common.{refl, ap, length, get_or, [], arith}
use Rattle.ve_table.specs.declared.table.Table.TheInside.{Inside}
use Rattle.ve_table.proofs.Copying.{same_parts, same_reaches}
use Rattle.ve_table.proofs.Grown.{kept_with_room}
use Rattle.ve_table.proofs.table.Table.copy.Goals as goal

abbrev copied : goal.In_ok-lists → Inside
copied c = record {
  presentation = c.in_ok-presentation.presentation;
  reaches = c.in_ok-presentation.reaches;
  level = c.self.inside.level;
  entries = c.in_ok-lists.lists.entries;
  forwards = c.in_ok-lists.lists.forwards;
  rows = c.in_ok-lists.lists.rows;
  bounds = c.in_ok-lists.lists.bounds;
  live = c.self.inside.live;
  images = c.in_ok-lists.lists.images;
}

pub invariant_of-result : goal.invariant_of-result
invariant_of-result c =
    let same = c.in_ok-lists.ensures in
    let presentation = c.in_ok-presentation.ensures.presentation in
    kept_with_room c.self.inside (copied c) c.self.invariant (omega (arith, ap length same.rows, c.self.invariant.few_places)) (omega (arith, ap length same.rows)) (λ k. ap (λ l. get_or l k []) same.rows) same.bounds same.entries presentation
    (same_parts c.self.inside (copied c) presentation refl same.images same.bounds same.rows same.forwards same.entries) refl same.forwards (omega (arith, same.room))
    (same_reaches c.self.inside c.self.invariant c.in_ok-presentation.reaches c.in_ok-presentation.ensures.relators c.in_ok-presentation.ensures.submodule)
