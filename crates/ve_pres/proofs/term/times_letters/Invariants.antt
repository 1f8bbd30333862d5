use Rattle.std.proofs.Common.{◌≡◌, take}
use Rattle.ve_theory.specs.Words.{times_all}
use Rattle.ve_pres.proofs.term.times_letters.Given as goal

abbrev pub invariant-loop-letter : goal.invariant-loop-letter
invariant-loop-letter l = l.product ≡ times_all l.word (take l.letter-index l.letters)
