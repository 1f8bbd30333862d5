use Rattle.std.proofs.Common.{◌≤◌, drop, length}
use Rattle.ve_theory.specs.Combinations.{AllBefore}
use Rattle.ve_vec.specs.Terms.{pairs}
use Rattle.ve_vec.proofs.search.count_from_end.Given as goal

abbrev pub decreases-loop-at : goal.decreases-loop-at
decreases-loop-at l = l.at

-- no id from here on is above the one that is looked for
abbrev pub invariant-loop-at : goal.invariant-loop-at
invariant-loop-at l = (l.at ≤ length l.terms) × AllBefore ◌≤◌ l.id (pairs (drop l.at l.terms))
