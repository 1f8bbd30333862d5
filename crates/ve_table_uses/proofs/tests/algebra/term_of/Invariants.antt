use Rattle.ve_theory.specs.Combinations.{IsReduced}
use Rattle.ve_theory.specs.Words.{ShortlexLetters}
use Rattle.ve_pres.specs.Terms.{HasLettersBelow}
use Rattle.ve_table_uses.proofs.tests.algebra.term_of.Given as goal

abbrev pub invariant-loop-letter : goal.invariant-loop-letter
invariant-loop-letter l = IsReduced ShortlexLetters l.field l.product × HasLettersBelow l.count l.product
