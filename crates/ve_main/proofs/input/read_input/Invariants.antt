use Rattle.std.proofs.Common.{◌-◌, length}
use Rattle.ve_main.proofs.Reading.{HasTaken}
use Rattle.ve_main.proofs.input.read_input.Given as goal

abbrev pub invariant-loop-text : goal.invariant-loop-text
invariant-loop-text g l = HasTaken (g.S.Source.input l.initial.source) (g.S.Source.input l.source) l.text.items l.buffer.items

abbrev pub decreases-loop-text : goal.decreases-loop-text
decreases-loop-text g l = 16777217 - length l.text.items
