use Rattle.std.proofs.Common.{◌+◌, ◌≤◌, drop}
use Rattle.ve_formats.specs.PresentationText.{most_open}
use Rattle.ve_value.specs.Shapes.{tokens_in}
use Rattle.ve_read.proofs.Depth.{AreAsDeep}
use Rattle.ve_read.proofs.lines.is_too_deep.Given as goal

abbrev pub invariant-loop-placed : goal.invariant-loop-placed
invariant-loop-placed l = record {
  opened : l.opened ≤ l.placed-index;
  closed : l.closed ≤ l.placed-index;
  within : l.opened ≤ l.closed + most_open;
  deep : AreAsDeep (tokens_in l.tokens) l.closed l.opened (tokens_in (drop l.placed-index l.tokens));
}
