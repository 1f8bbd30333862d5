use Rattle.std.proofs.Common.{subst, sym}
use Rattle.ve_value.specs.Shapes.{AreWritten}
use Rattle.ve_read.proofs.LineSteps.{lexed_written}
use Rattle.ve_read.proofs.lines.take_line.Goals as goal

pub take_tokens-requires-clause-written : goal.take_tokens-requires-clause-written
take_tokens-requires-clause-written c = subst AreWritten (sym c.deref.ensures.value) (lexed_written c.args.line.now c.in-Ok.tokens.items c.in-Ok.ensures.tokens c.in-Ok.ensures.values)
