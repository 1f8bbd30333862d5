use Rattle.ve_formats.proofs.Lexing.{lexed, lexes_once, fails_once, lexes_or_fails}
use Rattle.ve_formats.proofs.tokens.line_lexes_once.Goals as goal

pub returns-clause-lexed : goal.returns-clause-lexed
returns-clause-lexed c = lexed

pub returns-clause-same_tokens : goal.returns-clause-same_tokens
returns-clause-same_tokens c = λ at line tokens others. lexes_once

pub returns-clause-same_fault : goal.returns-clause-same_fault
returns-clause-same_fault c = λ at line fault other. fails_once

pub returns-clause-never_both : goal.returns-clause-never_both
returns-clause-never_both c = λ at line tokens fault. lexes_or_fails
