use Rattle.std.proofs.Common.{vec_len}
use Rattle.ve_pres.proofs.Gatherings.{IsGathering}
use Rattle.ve_pres.proofs.term.gather.Given as goal

abbrev pub invariant-loop-term : goal.invariant-loop-term
invariant-loop-term l = IsGathering l.field l.fn.terms.items l.kept.items l.terms.items

abbrev pub decreases-loop-term : goal.decreases-loop-term
decreases-loop-term l = vec_len l.terms
