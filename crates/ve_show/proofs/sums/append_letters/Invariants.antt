use Rattle.std.proofs.Common.{◌≡◌, ◌++◌, take}
use Rattle.ve_formats.specs.CanonicalText.{letters_text}
use Rattle.ve_show.proofs.sums.append_letters.Given as goal

abbrev pub invariant-loop-at : goal.invariant-loop-at
invariant-loop-at l = l.line.items ≡ l.fn.line.items ++ letters_text l.names (take l.at l.letters)
