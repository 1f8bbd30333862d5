use Rattle.std.proofs.Common.{◌≡◌, ◌++◌, take}
use Rattle.ve_table.specs.Births.{births_of}
use Rattle.ve_table.proofs.birth.push_products.Given as goal

abbrev pub invariant-loop-letter : goal.invariant-loop-letter
invariant-loop-letter l = l.births.items ≡ l.initial.births.items ++ births_of l.parent (take l.letter-index l.letters)
