-- What the reasons stand for for which an expression has no value.
use Rattle.std.specs.Prelude.{◌≡◌, Option, Some, None, MatchOption}
use Rattle.ve_formats.specs.Causes as causes
use Rattle.ve_formats.specs.Causes.{Cause, beyond}
use Rattle.ve_pres.specs.declared.limit.Limit as limits
use Rattle.ve_pres.specs.declared.limit.Limit.TheVariants.{Letters, Roots, Relations, Terms, Length, Cells}
use Rattle.ve_pres.specs.declared.limit.PresFault.{PresFault}
use Rattle.ve_pres.specs.declared.limit.PresFault.TheVariants.{Limit as Exceeds, Memory as NoValueMemory}
use Rattle.ve_value.specs.declared.fault.ValueFault.{ValueFault}
use Rattle.ve_value.specs.declared.fault.ValueFault.TheVariants.{UnknownName, ExponentTooLarge, NoInverse, Limit, Memory}

abbrev pub limit_of : limits.Limit → causes.Limit
limit_of Letters = causes.letters
limit_of Roots = causes.generators
limit_of Relations = causes.relations
limit_of (Terms count) = causes.terms count
limit_of (Length length) = causes.length length
limit_of (Cells cells) = causes.cells cells

-- the cause that a fault stands for; want of memory stands for none
abbrev pub cause_of : ValueFault → Option Cause
cause_of UnknownName = Some causes.unknown_name
cause_of ExponentTooLarge = Some causes.exponent_too_large
cause_of NoInverse = Some causes.no_inverse
cause_of (Limit limit) = Some (beyond (limit_of limit))
cause_of Memory = None

abbrev pub of_pres_fault : PresFault → ValueFault
of_pres_fault (Exceeds limit) = Limit limit
of_pres_fault NoValueMemory = Memory

-- what is told of the cause that a fault stands for; want of memory tells nothing
abbrev pub Tells : (Cause → Type 0) → ValueFault → Type 0
Tells Q why = MatchOption (cause_of why) (why ≡ Memory) Q
