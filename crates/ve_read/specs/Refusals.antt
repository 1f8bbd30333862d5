-- What the reasons of refusals stand for.
use Rattle.std.specs.Prelude.{◌≡◌, Option, Some, None, MatchOption}
use Rattle.ve_formats.specs.Tokens.{bad_byte, long_number}
use Rattle.ve_formats.specs.Causes as causes
use Rattle.ve_formats.specs.Causes.{Cause, lexical, beyond}
use Rattle.ve_lex.specs.declared.token.LexFault.{LexFault}
use Rattle.ve_lex.specs.declared.token.LexFault.TheVariants.{BadByte, LongNumber, Memory as NoTokenMemory}
use Rattle.ve_word.specs.declared.names.NameFault.{NameFault}
use Rattle.ve_word.specs.declared.names.NameFault.TheVariants.{Rooted, Taken, Full, Memory as NoNameMemory}
use Rattle.ve_pres.specs.declared.limit.Limit.TheVariants.{Letters}
use Rattle.ve_pres.specs.declared.limit.PresFault.{PresFault}
use Rattle.ve_pres.specs.declared.limit.PresFault.TheVariants.{Limit as Exceeds, Memory as NoValueMemory}
use Rattle.ve_value.specs.declared.fault.ValueFault.{ValueFault}
use Rattle.ve_value.specs.declared.fault.ValueFault.TheVariants as faults
use Rattle.ve_value.specs.Faults.{limit_of}
use Rattle.ve_read.specs.declared.why.Why.{Why}
use Rattle.ve_read.specs.declared.why.Why.TheVariants.{Lex, TooDeep, WrongLine, BadPrime, NameTaken, BadWeight, UnknownName, ExponentTooLarge, NoInverse, Limit, MissingEnd, AfterEnd, Memory}

-- the cause that a reason stands for; want of memory stands for none
abbrev pub cause_of : Why → Option Cause
cause_of (Lex (BadByte at)) = Some (lexical (bad_byte at))
cause_of (Lex (LongNumber at)) = Some (lexical (long_number at))
cause_of (Lex NoTokenMemory) = None
cause_of TooDeep = Some causes.too_deep
cause_of WrongLine = Some causes.wrong_line
cause_of BadPrime = Some causes.bad_prime
cause_of NameTaken = Some causes.name_taken
cause_of BadWeight = Some causes.bad_weight
cause_of UnknownName = Some causes.unknown_name
cause_of ExponentTooLarge = Some causes.exponent_too_large
cause_of NoInverse = Some causes.no_inverse
cause_of (Limit limit) = Some (beyond (limit_of limit))
cause_of MissingEnd = Some causes.missing_end
cause_of AfterEnd = Some causes.after_end
cause_of Memory = None

-- the reasons that faults of the crates below become

abbrev pub of_lex_fault : LexFault → Why
of_lex_fault (BadByte at) = Lex (BadByte at)
of_lex_fault (LongNumber at) = Lex (LongNumber at)
of_lex_fault NoTokenMemory = Memory

abbrev pub of_name_fault : NameFault → Why
of_name_fault Rooted = NameTaken
of_name_fault (Taken letter) = NameTaken
of_name_fault Full = Limit Letters
of_name_fault NoNameMemory = Memory

abbrev pub of_pres_fault : PresFault → Why
of_pres_fault (Exceeds limit) = Limit limit
of_pres_fault NoValueMemory = Memory

abbrev pub of_value_fault : ValueFault → Why
of_value_fault faults.UnknownName = UnknownName
of_value_fault faults.ExponentTooLarge = ExponentTooLarge
of_value_fault faults.NoInverse = NoInverse
of_value_fault (faults.Limit limit) = Limit limit
of_value_fault faults.Memory = Memory

-- what is told of the cause that a reason stands for; want of memory tells nothing
abbrev pub Tells : (Cause → Type 0) → Why → Type 0
Tells Q why = MatchOption (cause_of why) (why ≡ Memory) Q
