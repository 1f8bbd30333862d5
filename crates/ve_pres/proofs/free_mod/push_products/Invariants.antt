use Rattle.std.proofs.Common.{◌≡◌, ◌++◌, take}
use Rattle.ve_theory.specs.Combinations.{scaled}
use Rattle.ve_theory.specs.Elements.{word_times}
use Rattle.ve_pres.specs.Terms.{pairs, residues}
use Rattle.ve_pres.proofs.free_mod.push_products.Given as goal

abbrev pub invariant-loop-at : goal.invariant-loop-at
invariant-loop-at l = pairs l.terms.items ≡ pairs l.initial.terms.items ++ residues l.field (scaled l.term.coef (word_times l.term.word (take l.at l.right)))
