use Rattle.ve_theory.specs.Combinations.{IsReduced}
use Rattle.ve_theory.specs.Words.{ShortlexLetters}
use Rattle.ve_pres.specs.Terms.{HasLettersBelow}
use Rattle.ve_table_uses.proofs.tests.algebra.element_of.Given as goal

abbrev pub invariant-loop-coef : goal.invariant-loop-coef
invariant-loop-coef l = IsReduced ShortlexLetters l.field l.sum × HasLettersBelow l.count l.sum
