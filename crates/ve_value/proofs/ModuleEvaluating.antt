-- The work on all tokens of an expression of the module.
use Rattle.std.proofs.Common.{◌≡◌, ◌≢◌, true, false, List, [], ◌∷◌, Some, Result, Ok, Err, refl, sym, ap, ◌∙◌, is_some, IsTrue}
use Rattle.ve_theory.specs.Presentations.{Presentation}
use Rattle.ve_theory.specs.Combinations.{IsReduced}
use Rattle.ve_theory.specs.Words.{Shortlex}
use Rattle.ve_theory.specs.Elements.{Element}
use Rattle.ve_formats.specs.Tokens.{Token}
use Rattle.ve_formats.specs.ModuleExpressions.{ModuleExpression}
use Rattle.ve_formats.specs.ModuleValues.{HasModuleValue}
use Rattle.ve_formats.specs.ModuleReading.{ModuleReader, module_stuck, module_start, module_read, module_read_all, module_expression_read, module_parsed}
use Rattle.ve_value.specs.declared.fault.ValueFault.{ValueFault}
use Rattle.ve_value.specs.declared.module_value.ModuleWork.{ModuleWork}
use Rattle.ve_value.specs.Faults.{Tells}
use Rattle.ve_value.specs.Given.{GivesModule}
use Rattle.ve_value.specs.ModuleEvaluation.{IsModuleWorkOf, ReadsModuleOn, CanReadModule}
use Rattle.ve_value.proofs.Joining.{tells_more}
use Rattle.ve_value.proofs.FaultyModules.{module_faulty_to_the_end}
use Rattle.ve_value.proofs.ModuleSteps.{module_read_all-stuck}
use Rattle.ve_value.proofs.ModuleWorkSteps.{some_whole}

-- the work is that of a reader of the front of tokens, of which the rest is left
pub record IsModuleWorkBefore (P : Presentation) (w : ModuleWork) (all rest : List Token) : Type 0 where
  pub reader : ModuleReader
  pub is_work : IsModuleWorkOf P reader w
  pub goes_on : module_read_all module_start all ≡ module_read_all reader rest

pub module_work_begins : (P : Presentation) (w : ModuleWork) (all : List Token) → IsModuleWorkOf P module_start w → IsModuleWorkBefore P w all all
module_work_begins P w all h = record { reader = module_start; is_work = h; goes_on = refl }

-- the reader of a whole expression isn't stuck
never_stuck : (r : ModuleReader) (t : Token) (rest : List Token) → IsTrue (is_some (module_expression_read (module_read_all r (t ∷ rest)))) → module_read r t ≢ module_stuck
unfolding module_read_all module_expression_read
never_stuck r t rest whole is =
    let none : is_some (module_expression_read (module_read_all (module_read r t) rest)) ≡ false =
    ap (λ (r : ModuleReader). is_some (module_expression_read (module_read_all r rest))) is ∙ ap (λ (r : ModuleReader). is_some (module_expression_read r)) (module_read_all-stuck rest) in
    let both : true ≡ false = sym whole ∙ none in
    (cc)

goes_on_there : (P : Presentation) (w : ModuleWork) (all : List Token) (t : Token) (rest : List Token) → IsTrue (is_some (module_parsed all)) → (h : IsModuleWorkBefore P w all (t ∷ rest))
    → module_read h.reader t ≢ module_stuck
unfolding module_parsed
goes_on_there P w all t rest whole h = never_stuck h.reader t rest (sym (ap (λ (r : ModuleReader). is_some (module_expression_read r)) h.goes_on) ∙ whole)

pub module_can_read : (P : Presentation) (w : ModuleWork) (all : List Token) (t : Token) (rest : List Token) → IsTrue (is_some (module_parsed all)) → IsModuleWorkBefore P w all (t ∷ rest) → CanReadModule P w t
module_can_read P w all t rest whole h = record { reader = h.reader; is_work = h.is_work; goes_on = goes_on_there P w all t rest whole h }

pub module_reads_further : (P : Presentation) (w next : ModuleWork) (all : List Token) (t : Token) (rest : List Token) → IsTrue (is_some (module_parsed all)) → IsModuleWorkBefore P w all (t ∷ rest)
    → ReadsModuleOn P w t (Ok next) → IsModuleWorkBefore P next all rest
unfolding module_read_all
module_reads_further P w next all t rest whole h reads =
    record { reader = module_read h.reader t; is_work = reads h.reader h.is_work (goes_on_there P w all t rest whole h); goes_on = h.goes_on }

pub module_fails_to_read : (P : Presentation) (w : ModuleWork) (all : List Token) (t : Token) (rest : List Token) (why : ValueFault) → IsTrue (is_some (module_parsed all)) → IsModuleWorkBefore P w all (t ∷ rest)
    → ReadsModuleOn P w t (Err why) → (m : ModuleExpression) → module_parsed all ≡ Some m → Tells (λ cause. HasModuleValue P m (Err cause)) why
unfolding module_read_all module_parsed
module_fails_to_read P w all t rest why whole h reads m is =
    tells_more _ _ (λ cause faulty. module_faulty_to_the_end P cause (module_read h.reader t) rest m faulty (ap module_expression_read (sym h.goes_on) ∙ is)) why
    (reads h.reader h.is_work (goes_on_there P w all t rest whole h))

pub module_can_finish : (P : Presentation) (w : ModuleWork) (all : List Token) → IsTrue (is_some (module_parsed all)) → IsModuleWorkBefore P w all []
    → (r : ModuleReader) × IsModuleWorkOf P r w × IsTrue (is_some (module_expression_read r))
unfolding module_parsed module_read_all
module_can_finish P w all whole h = (h.reader, h.is_work, sym (ap (λ (r : ModuleReader). is_some (module_expression_read r)) h.goes_on) ∙ whole)

pub module_finished : (P : Presentation) (w : ModuleWork) (all : List Token) (result : Result Element ValueFault) → IsModuleWorkBefore P w all []
    → ((r : ModuleReader) (m : ModuleExpression) → IsModuleWorkOf P r w → module_expression_read r ≡ Some m → GivesModule P m result) → (m : ModuleExpression) → module_parsed all ≡ Some m → GivesModule P m result
unfolding module_parsed module_read_all
module_finished P w all result h gives m is = gives h.reader m h.is_work (ap module_expression_read (sym h.goes_on) ∙ is)

-- an expression that is read

pub module_value_reduced : (P : Presentation) (all : List Token) (v : Element) → IsTrue (is_some (module_parsed all)) → ((m : ModuleExpression) → module_parsed all ≡ Some m → GivesModule P m (Ok v))
    → IsReduced Shortlex P.prime v
module_value_reduced P all v whole gives = let some = some_whole (module_parsed all) whole in (gives some.0 some.1).reduced
