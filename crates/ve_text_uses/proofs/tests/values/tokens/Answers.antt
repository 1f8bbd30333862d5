use Rattle.ve_value.proofs.LexedTokens.{lexed_written}
use Rattle.ve_text_uses.proofs.tests.values.tokens.Goals as goal

pub returns : goal.returns
returns c = lexed_written _ _ c.tokens.ensures.tokens c.tokens.ensures.values
