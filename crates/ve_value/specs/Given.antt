-- What is given for an expression: its value, or its first fault.
use Rattle.std.specs.Prelude.{Result, Ok, Err, MatchResult}
use Rattle.ve_theory.specs.Combinations.{IsReduced}
use Rattle.ve_theory.specs.Words.{Shortlex}
use Rattle.ve_theory.specs.Elements.{AlgebraElement, Element}
use Rattle.ve_theory.specs.Presentations.{Presentation}
use Rattle.ve_formats.specs.Expressions.{Expression}
use Rattle.ve_formats.specs.ModuleExpressions.{ModuleExpression}
use Rattle.ve_formats.specs.Values.{HasValue}
use Rattle.ve_formats.specs.ModuleValues.{HasModuleValue}
use Rattle.ve_value.specs.declared.fault.ValueFault.{ValueFault}
use Rattle.ve_value.specs.Faults.{Tells}
use Rattle.ve_value.specs.Evaluation.{IsWorth}

-- the value of an expression, or what its refusal tells
abbrev pub Gives : Presentation → Expression → Result AlgebraElement ValueFault → Type 0
Gives P e result = MatchResult result (IsWorth P e) (Tells (λ cause. HasValue P e (Err cause)))

-- the value of an expression of the module
pub record IsModuleWorth (P : Presentation) (e : ModuleExpression) (v : Element) : Type 0 where
  pub value : HasModuleValue P e (Ok v)
  pub reduced : IsReduced Shortlex P.prime v

abbrev pub GivesModule : Presentation → ModuleExpression → Result Element ValueFault → Type 0
GivesModule P e result = MatchResult result (IsModuleWorth P e) (Tells (λ cause. HasModuleValue P e (Err cause)))
