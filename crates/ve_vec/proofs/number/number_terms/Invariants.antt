use Rattle.std.proofs.Common.{◌≡◌}
use Rattle.ve_vec.proofs.Scaling.{written_up_to}
use Rattle.ve_vec.proofs.Numbering.{number_of}
use Rattle.ve_vec.proofs.number.number_terms.Given as goal

abbrev pub invariant-loop-term : goal.invariant-loop-term
invariant-loop-term l = l.term-items ≡ written_up_to (number_of l.numbers) l.term-index l.fn.terms
