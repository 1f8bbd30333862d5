use Rattle.std.proofs.Common.{arith, refl}
use Rattle.ve_formats.proofs.SpacedPieces.{pieces_once, last_once, name_lacks, decimal_lacks, words_once}
use Rattle.ve_formats.proofs.pieces.texts_split_once.Goals as goal

pub returns-clause-spaces : goal.returns-clause-spaces
returns-clause-spaces c = pieces_once

pub returns-clause-stars : goal.returns-clause-stars
returns-clause-stars c = last_once 42

pub returns-clause-names : goal.returns-clause-names
returns-clause-names c name is = (name_lacks 32 refl name is, name_lacks 42 refl name is)

pub returns-clause-numbers : goal.returns-clause-numbers
returns-clause-numbers c n small = (decimal_lacks 32 n (omega arith) small, decimal_lacks 42 n (omega arith) small)

pub returns-clause-words : goal.returns-clause-words
returns-clause-words c names v w are = words_once names are v w
