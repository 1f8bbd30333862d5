-- The lines that tell why a run ends, each with its line feed.
use Rattle.std.specs.Prelude.{ℕ, List, ◌++◌, codes, decimal}
use Rattle.ve_formats.specs.Lines.{line_text}
use Rattle.ve_formats.specs.Tokens.{Fault, bad_byte, long_number}
use Rattle.ve_formats.specs.Causes as causes
use Rattle.ve_formats.specs.Causes.{Cause, Limit}

abbrev pub usage_message : List ℕ
usage_message = line_text (codes "venum: usage: venum alone, shared, show, check or make, with their options")

abbrev pub too_long_message : List ℕ
too_long_message = line_text (codes "venum: input longer than 16777216 bytes")

abbrev pub not_yet_message : List ℕ
not_yet_message = line_text (codes "venum: not yet")

abbrev pub input_message : List ℕ
input_message = line_text (codes "venum: input failed")

abbrev pub output_message : List ℕ
output_message = line_text (codes "venum: output failed")

abbrev pub memory_message : List ℕ
memory_message = line_text (codes "venum: out of memory")

-- what is told of a refused line

abbrev pub fault_text : Fault → List ℕ
fault_text (bad_byte at) = codes "byte " ++ decimal at ++ codes " begins no token"
fault_text (long_number at) = codes "number at byte " ++ decimal at ++ codes " has more than 18 digits"

abbrev pub limit_text : Limit → List ℕ
limit_text causes.letters = codes "more than 32 letters"
limit_text causes.generators = codes "more than 255 module generators"
limit_text causes.relations = codes "more than 4096 relations"
limit_text (causes.terms count) = decimal count ++ codes " terms, more than 4096"
limit_text (causes.length length) = codes "word of length " ++ decimal length ++ codes ", more than 1000"
limit_text (causes.cells cells) = decimal cells ++ codes " cells, more than 8388608"

abbrev pub cause_text : Cause → List ℕ
cause_text (causes.lexical fault) = fault_text fault
cause_text causes.too_deep = codes "more than 64 open parentheses"
cause_text causes.wrong_line = codes "this line is not expected here"
cause_text causes.bad_prime = codes "not a prime below 256"
cause_text causes.name_taken = codes "name already taken"
cause_text causes.bad_weight = codes "weight not from 1 to 16"
cause_text causes.unknown_name = codes "unknown name"
cause_text causes.exponent_too_large = codes "exponent above 1000"
cause_text causes.no_inverse = codes "no inverse"
cause_text (causes.beyond limit) = limit_text limit
cause_text causes.missing_end = codes "end is missing"
cause_text causes.after_end = codes "text after end"

abbrev pub refusal_message : ℕ → Cause → List ℕ
refusal_message line cause = line_text (codes "venum: line " ++ decimal line ++ codes ": " ++ cause_text cause)

-- the text of an answer is refused at a line
abbrev pub answer_refusal_message : ℕ → List ℕ
answer_refusal_message line = line_text (codes "venum: answer line " ++ decimal line ++ codes ": not an answer")

-- there is no generated presentation with these numbers
abbrev pub no_presentation_message : List ℕ
no_presentation_message = line_text (codes "venum: no such presentation")
