-- What reasons tell, and what becomes of it in those of the whole.
use Rattle.std.proofs.Common.{◌≡◌, Option, Some, None, refl}
use Rattle.std.specs.Prelude.{MatchOption}
use Rattle.ve_formats.specs.Causes.{Cause}
use Rattle.ve_value.specs.Faults as values
use Rattle.ve_value.specs.declared.fault.ValueFault.{ValueFault}
use Rattle.ve_value.specs.declared.fault.ValueFault.TheVariants as faults
use Rattle.ve_read.specs.declared.why.Why.{Why}
use Rattle.ve_read.specs.declared.why.Why.TheVariants.{Memory}
use Rattle.ve_read.specs.Refusals.{Tells, cause_of, of_value_fault}

pub tells_more : (Q R : Cause → Type 0) (why : Why) → ((cause : Cause) → Q cause → R cause) → Tells Q why → Tells R why
tells_more Q R why more h = told (cause_of why) h
  where
    told : (o : Option Cause) → MatchOption o (why ≡ Memory) Q → MatchOption o (why ≡ Memory) R
    told None is = is
    told (Some cause) holds = more cause holds

-- what a fault of a value tells, its reason tells
pub value_tells : (Q : Cause → Type 0) (fault : ValueFault) → values.Tells Q fault → Tells Q (of_value_fault fault)
value_tells Q faults.UnknownName h = h
value_tells Q faults.ExponentTooLarge h = h
value_tells Q faults.NoInverse h = h
value_tells Q (faults.Limit limit) h = h
value_tells Q faults.Memory h = refl
