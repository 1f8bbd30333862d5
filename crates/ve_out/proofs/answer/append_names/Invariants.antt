use Rattle.std.proofs.Common.{◌≡◌, ◌++◌, codes, take}
use Rattle.ve_formats.specs.Lines.{each_after_space}
use Rattle.ve_out.proofs.answer.append_names.Given as goal

abbrev pub invariant-loop-letter : goal.invariant-loop-letter
invariant-loop-letter l = l.line.items ≡ l.fn.line.items ++ codes "letters" ++ each_after_space (take l.letter l.names)
