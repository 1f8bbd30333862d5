-- How the front of an expression of the module is worked out.
use Rattle.std.specs.Prelude.{◌≡◌, ◌≢◌, Bool, true, false, Option, Some, None, Result, Ok, Err, MatchResult, ◌⊎◌}
use Rattle.ve_theory.specs.Elements.{Element}
use Rattle.ve_theory.specs.Presentations.{Presentation}
use Rattle.ve_formats.specs.Causes.{Cause}
use Rattle.ve_formats.specs.Tokens.{Token}
use Rattle.ve_formats.specs.ModuleExpressions as expressions
use Rattle.ve_formats.specs.ModuleExpressions.{ModuleExpression}
use Rattle.ve_formats.specs.ModuleValues.{HasModuleValue}
use Rattle.ve_formats.specs.ModuleReading.{ModuleReading, term_wanted, numbered, scaling, term_stands, multiplying}
use Rattle.ve_formats.specs.ModuleReading.{ModuleReader, module_stuck, module_reading, module_read}
use Rattle.ve_value.specs.declared.fault.ValueFault.{ValueFault}
use Rattle.ve_value.specs.declared.module_value.ModulePending.{ModulePending}
use Rattle.ve_value.specs.declared.module_value.Term.{Term}
use Rattle.ve_value.specs.declared.module_value.Term.TheVariants.{Wanted, Number, Scaling, Standing, Multiplying}
use Rattle.ve_value.specs.declared.module_value.ModuleWork.{ModuleWork}
use Rattle.ve_value.specs.Faults.{Tells}
use Rattle.ve_value.specs.Given.{IsModuleWorth}
use Rattle.ve_value.specs.Evaluation.{IsWorkOf, IsFaulty}

-- the sum so far, where there is one, is that to which the next term belongs
abbrev pub IsModuleSumOf : Presentation → (ModuleExpression → ModuleExpression) → Bool → Option Element → Type 0
IsModuleSumOf P joins false None = (n : ModuleExpression) → joins n ≡ n
IsModuleSumOf P joins true None = (n : ModuleExpression) → joins n ≡ expressions.opposite n
IsModuleSumOf P joins false (Some v) = (m : ModuleExpression) × IsModuleWorth P m v × ((n : ModuleExpression) → joins n ≡ expressions.sum m n)
IsModuleSumOf P joins true (Some v) = (m : ModuleExpression) × IsModuleWorth P m v × ((n : ModuleExpression) → joins n ≡ expressions.difference m n)

abbrev pub IsModulePendingOf : Presentation → (ModuleExpression → ModuleExpression) → ModulePending → Type 0
IsModulePendingOf P joins pending = IsModuleSumOf P joins pending.is_negative pending.sum

abbrev pub IsTermOf : Presentation → ModuleReading → Term → Type 0
IsTermOf P (term_wanted first) Wanted = Unit {0}
IsTermOf P (numbered n) (Number number) = number ≡ n
IsTermOf P (scaling n) (Scaling number) = number ≡ n
IsTermOf P (term_stands m) (Standing v) = IsModuleWorth P m v
IsTermOf P (multiplying m r) (Multiplying v work) = IsModuleWorth P m v × IsWorkOf P r work
IsTermOf P _ _ = ⊥

pub record IsModuleFrontOf (P : Presentation) (joins : ModuleExpression → ModuleExpression) (state : ModuleReading) (work : ModuleWork) : Type 0 where
  pub sum : IsModulePendingOf P joins work.pending
  pub term : IsTermOf P state work.term

-- the work is what a reader has read, worked out
abbrev pub IsModuleWorkOf : Presentation → ModuleReader → ModuleWork → Type 0
IsModuleWorkOf P module_stuck work = ⊥
IsModuleWorkOf P (module_reading joins state) work = IsModuleFrontOf P joins state work

-- Faults. What was read has one that comes before those of all that follows.

-- the sum so far has the fault
abbrev pub IsFaultySum : Presentation → Cause → (ModuleExpression → ModuleExpression) → Type 0
IsFaultySum P cause joins = (n : ModuleExpression) → HasModuleValue P (joins n) (Err cause)

-- a fault of the next term is one of the whole
abbrev pub Passes : Presentation → (ModuleExpression → ModuleExpression) → Type 0
Passes P joins = (n : ModuleExpression) (cause : Cause) → HasModuleValue P n (Err cause) → HasModuleValue P (joins n) (Err cause)

-- the term has the fault
abbrev pub IsFaultyTerm : Presentation → Cause → ModuleReading → Type 0
IsFaultyTerm P cause (term_stands m) = HasModuleValue P m (Err cause)
IsFaultyTerm P cause (multiplying m r) = HasModuleValue P m (Err cause) ⊎ (((u : Element) × HasModuleValue P m (Ok u)) × IsFaulty P cause r)
IsFaultyTerm P cause _ = ⊥

-- what a reader has read has the fault
abbrev pub IsModuleFaulty : Presentation → Cause → ModuleReader → Type 0
IsModuleFaulty P cause module_stuck = Unit {0}
IsModuleFaulty P cause (module_reading joins (term_wanted true)) = ⊥
IsModuleFaulty P cause (module_reading joins state) = IsFaultySum P cause joins ⊎ (IsFaultyTerm P cause state × Passes P joins)

-- the work of a reader, or the fault of what it has read
abbrev pub ModuleWorks : Presentation → ModuleReader → Result ModuleWork ValueFault → Type 0
ModuleWorks P r result = MatchResult result (IsModuleWorkOf P r) (Tells (λ cause. IsModuleFaulty P cause r))

-- the work goes on with a token as each reader does that can go on
abbrev pub ReadsModuleOn : Presentation → ModuleWork → Token → Result ModuleWork ValueFault → Type 0
ReadsModuleOn P work t result = (r : ModuleReader) → IsModuleWorkOf P r work → module_read r t ≢ module_stuck → ModuleWorks P (module_read r t) result

-- the work is that of a reader which can go on with a token
pub record CanReadModule (P : Presentation) (work : ModuleWork) (t : Token) : Type 0 where
  pub reader : ModuleReader
  pub is_work : IsModuleWorkOf P reader work
  pub goes_on : module_read reader t ≢ module_stuck
