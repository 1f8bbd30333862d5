use Rattle.std.proofs.Common.{◌≡◌}
use Rattle.ve_pres.proofs.Negatives.{negated_to}
use Rattle.ve_pres.proofs.term.negate.Given as goal

abbrev pub invariant-loop-term : goal.invariant-loop-term
invariant-loop-term l = l.term-items ≡ negated_to l.field l.term-index l.fn.terms
