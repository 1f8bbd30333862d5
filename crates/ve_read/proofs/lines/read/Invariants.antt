use Rattle.std.proofs.Common.{◌+◌, ◌≤◌, length}
use Rattle.ve_read.specs.Drafts.{IsKept, draft_of}
use Rattle.ve_read.proofs.TextSteps.{IsReadTo}
use Rattle.ve_read.proofs.lines.read.Given as goal

abbrev pub invariant-loop-front : goal.invariant-loop-front
invariant-loop-front l = record {
  kept : IsKept l.draft;
  read : IsReadTo l.text l.rest (draft_of l.draft) l.line;
  room : l.line + length l.rest ≤ length l.text + 1;
}

abbrev pub decreases-loop-front : goal.decreases-loop-front
decreases-loop-front l = length l.rest
