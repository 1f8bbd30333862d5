use Rattle.std.proofs.Common.{◌≡◌, ◌++◌, take}
use Rattle.ve_theory.specs.Words.{generator, start, times_all}
use Rattle.ve_formats.specs.WordText.{word_text}
use Rattle.ve_word.proofs.text.append_word.Given as goal

abbrev pub invariant-loop-letter : goal.invariant-loop-letter
invariant-loop-letter l =
    l.line.items
    ≡ l.fn.line.items ++ word_text l.names (times_all (generator (start l.word)) (take l.letter-index l.letter-items))
