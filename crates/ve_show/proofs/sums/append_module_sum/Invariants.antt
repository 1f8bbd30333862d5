use Rattle.std.proofs.Common.{◌≡◌, ◌++◌, map, take}
use Rattle.ve_formats.specs.CanonicalText.{joined_terms, term_text}
use Rattle.ve_show.proofs.sums.append_module_sum.Given as goal

abbrev pub invariant-loop-at : goal.invariant-loop-at
invariant-loop-at l = l.line.items ≡ l.fn.line.items ++ joined_terms (map (term_text l.names) (take l.at l.element))
