use Rattle.std.proofs.Common.{sym, ◌∙◌}
use Rattle.ve_read.proofs.Fronts.{word_first}
use Rattle.ve_read.proofs.form.take_word.Goals as goal
use lib.Pointwise.{bytes_decides}

pub returns-then-eq : goal.returns-then-eq
returns-then-eq c = word_first c.in_ok-first.ensures.cases.0 c.in-Name.name c.args.word.now c.in-Name.is ((bytes_decides _ _).0 (sym c.eq.ensures ∙ c.if-eq.true)) c.requires
