-- The work on all tokens of an expression.
use Rattle.std.proofs.Common.{◌≡◌, ◌≢◌, true, false, List, [], ◌∷◌, Option, Some, None, Result, Ok, Err, refl, sym, ap, ◌∙◌, is_some, IsTrue}
use Rattle.ve_theory.specs.Presentations.{Presentation}
use Rattle.ve_theory.specs.Elements.{AlgebraElement}
use Rattle.ve_theory.specs.Combinations.{IsReduced}
use Rattle.ve_theory.specs.Words.{ShortlexLetters}
use Rattle.ve_formats.specs.Tokens.{Token}
use Rattle.ve_formats.specs.Expressions.{Expression}
use Rattle.ve_formats.specs.Values.{HasValue}
use Rattle.ve_formats.specs.Reading.{Reader, stuck, reading, blank, wanted, read, read_all, expression_read, parsed}
use Rattle.ve_value.specs.declared.fault.ValueFault.{ValueFault}
use Rattle.ve_value.specs.declared.value.Work.{Work}
use Rattle.ve_value.specs.Faults.{Tells}
use Rattle.ve_value.specs.Given.{Gives}
use Rattle.ve_value.specs.Evaluation.{IsWorkOf, ReadsOn, CanRead}
use Rattle.ve_value.proofs.Joining.{tells_more}
use Rattle.ve_value.proofs.FaultyFronts.{faulty_to_the_end}
use Rattle.ve_value.proofs.ShapeSteps.{read_all-stuck}

-- the work is that of a reader of the front of tokens, of which the rest is left
pub record IsWorkBefore (P : Presentation) (w : Work) (all rest : List Token) : Type 0 where
  pub reader : Reader
  pub is_work : IsWorkOf P reader w
  pub goes_on : read_all (reading [] blank (wanted true)) all ≡ read_all reader rest

pub begins : (P : Presentation) (w : Work) (all : List Token) → IsWorkOf P (reading [] blank (wanted true)) w → IsWorkBefore P w all all
begins P w all h = record { reader = reading [] blank (wanted true); is_work = h; goes_on = refl }

-- the reader of a whole expression isn't stuck
never_stuck : (r : Reader) (t : Token) (rest : List Token) → IsTrue (is_some (expression_read (read_all r (t ∷ rest)))) → read r t ≢ stuck
unfolding read_all expression_read
never_stuck r t rest whole is =
    let none : is_some (expression_read (read_all (read r t) rest)) ≡ false = ap (λ (r : Reader). is_some (expression_read (read_all r rest))) is ∙ ap (λ (r : Reader). is_some (expression_read r)) (read_all-stuck rest) in
    let both : true ≡ false = sym whole ∙ none in
    (cc)

goes_on_there : (P : Presentation) (w : Work) (all : List Token) (t : Token) (rest : List Token) → IsTrue (is_some (parsed all)) → (h : IsWorkBefore P w all (t ∷ rest)) → read h.reader t ≢ stuck
unfolding parsed
goes_on_there P w all t rest whole h = never_stuck h.reader t rest (sym (ap (λ (r : Reader). is_some (expression_read r)) h.goes_on) ∙ whole)

pub can_read : (P : Presentation) (w : Work) (all : List Token) (t : Token) (rest : List Token) → IsTrue (is_some (parsed all)) → IsWorkBefore P w all (t ∷ rest) → CanRead P w t
can_read P w all t rest whole h = record { reader = h.reader; is_work = h.is_work; goes_on = goes_on_there P w all t rest whole h }

pub reads_further : (P : Presentation) (w next : Work) (all : List Token) (t : Token) (rest : List Token) → IsTrue (is_some (parsed all)) → IsWorkBefore P w all (t ∷ rest) → ReadsOn P w t (Ok next)
    → IsWorkBefore P next all rest
unfolding read_all
reads_further P w next all t rest whole h reads =
    record { reader = read h.reader t; is_work = reads h.reader h.is_work (goes_on_there P w all t rest whole h); goes_on = h.goes_on }

pub fails_to_read : (P : Presentation) (w : Work) (all : List Token) (t : Token) (rest : List Token) (why : ValueFault) → IsTrue (is_some (parsed all)) → IsWorkBefore P w all (t ∷ rest)
    → ReadsOn P w t (Err why) → (e : Expression) → parsed all ≡ Some e → Tells (λ cause. HasValue P e (Err cause)) why
unfolding read_all parsed
fails_to_read P w all t rest why whole h reads e is =
    tells_more _ _ (λ cause faulty. faulty_to_the_end P cause (read h.reader t) rest e faulty (ap expression_read (sym h.goes_on) ∙ is)) why (reads h.reader h.is_work (goes_on_there P w all t rest whole h))

pub can_finish : (P : Presentation) (w : Work) (all : List Token) → IsTrue (is_some (parsed all)) → IsWorkBefore P w all [] → (r : Reader) × IsWorkOf P r w × IsTrue (is_some (expression_read r))
unfolding parsed read_all
can_finish P w all whole h = (h.reader, h.is_work, sym (ap (λ (r : Reader). is_some (expression_read r)) h.goes_on) ∙ whole)

pub finished : (P : Presentation) (w : Work) (all : List Token) (result : Result AlgebraElement ValueFault) → IsWorkBefore P w all []
    → ((r : Reader) (e : Expression) → IsWorkOf P r w → expression_read r ≡ Some e → Gives P e result) → (e : Expression) → parsed all ≡ Some e → Gives P e result
unfolding parsed read_all
finished P w all result h gives e is = gives h.reader e h.is_work (ap expression_read (sym h.goes_on) ∙ is)

-- an expression that is read
pub some_read : (o : Option Expression) → IsTrue (is_some o) → (e : Expression) × (o ≡ Some e)
some_read None h = absurd (cc)
some_read (Some e) h = (e, refl)

pub value_reduced : (P : Presentation) (all : List Token) (v : AlgebraElement) → IsTrue (is_some (parsed all)) → ((e : Expression) → parsed all ≡ Some e → Gives P e (Ok v))
    → IsReduced ShortlexLetters P.prime v
value_reduced P all v whole gives = let some = some_read (parsed all) whole in (gives some.0 some.1).reduced
