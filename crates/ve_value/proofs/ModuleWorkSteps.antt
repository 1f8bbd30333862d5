-- What a token does to the work on an expression of the module.
use Rattle.std.proofs.Common.{◌≡◌, ◌≢◌, ℕ, Bool, true, false, cond, nat_eq, List, [], Option, Some, None, Result, Ok, Err, refl, sym, ap, ◌∙◌, subst, inl, inr, ◌⊎◌, IsTrue, is_some}
use Rattle.std.specs.Prelude.{◌&&◌}
use Rattle.ve_theory.specs.Presentations.{Presentation}
use Rattle.ve_theory.specs.Combinations.{IsReduced}
use Rattle.ve_theory.specs.Words.{Shortlex}
use Rattle.ve_theory.specs.Elements.{Element}
use Rattle.ve_formats.specs.Causes.{Cause}
use Rattle.ve_formats.specs.Tokens.{Token, name, number, symbol, number_value}
use Rattle.ve_formats.specs.Expressions.{Expression}
use Rattle.ve_formats.specs.ModuleExpressions as expressions
use Rattle.ve_formats.specs.ModuleExpressions.{ModuleExpression, nothing}
use Rattle.ve_formats.specs.ModuleValues.{HasModuleValue, of_zero, of_sum_left, of_difference_left}
use Rattle.ve_formats.specs.Reading as grammar
use Rattle.ve_formats.specs.Reading.{Reader, stuck, reading, first_sign, signs, read, expression_read}
use Rattle.ve_formats.specs.ModuleReading.{ModuleReading, ModuleReader, module_stuck, module_reading, term_wanted, numbered, scaling, term_stands, multiplying, factor_start, in_factor, before_term, behind_term, behind_number, behind_factor, module_read, multiplied_whole, module_expression_read}
use Rattle.ve_value.specs.declared.fault.ValueFault.{ValueFault}
use Rattle.ve_value.specs.declared.sign.Sign.{Sign}
use Rattle.ve_value.specs.declared.sign.Sign.TheVariants.{Plus, Minus, Times, Power, Open, Close, Other}
use Rattle.ve_value.specs.declared.value.Work.{Work}
use Rattle.ve_value.specs.declared.module_value.ModulePending.{ModulePending}
use Rattle.ve_value.specs.declared.module_value.Term.{Term}
use Rattle.ve_value.specs.declared.module_value.Term.TheVariants.{Wanted, Number, Scaling, Standing, Multiplying}
use Rattle.ve_value.specs.declared.module_value.ModuleWork.{ModuleWork}
use Rattle.ve_value.specs.Signs.{read_as}
use Rattle.ve_value.specs.Faults.{Tells}
use Rattle.ve_value.specs.Given.{IsModuleWorth, GivesModule}
use Rattle.ve_value.specs.Evaluation.{IsWorkOf, IsFaulty, ReadsOn, CanRead}
use Rattle.ve_value.specs.ModuleShapes.{ends_factor}
use Rattle.ve_value.specs.ModuleEvaluation.{IsModulePendingOf, IsTermOf, IsModuleWorkOf, Passes, IsModuleFaulty, ModuleWorks, ReadsModuleOn, CanReadModule}
use Rattle.ve_value.proofs.Joining.{tells_more}
use Rattle.ve_value.proofs.ModuleJoining.{sum_passes}
use Rattle.ve_value.proofs.FaultyModules.{stays_module_faulty}

abbrev pub module_work : ModulePending → Term → ModuleWork
module_work pending term = record { pending = pending; term = term }

-- a reader in a state, with its work
pub record IsAtTerm (P : Presentation) (w : ModuleWork) (r : ModuleReader) (state : ModuleReading) : Type 0 where
  pub joins : ModuleExpression → ModuleExpression
  pub is : r ≡ module_reading joins state
  pub sum : IsModulePendingOf P joins w.pending

term_of : (P : Presentation) (state : ModuleReading) (term now : Term) → now ≡ term → IsTermOf P state now → IsTermOf P state term
term_of P state term now is h = subst (λ (now : Term). IsTermOf P state now) is h

pub when_term_wanted : (P : Presentation) (w : ModuleWork) (r : ModuleReader) → w.term ≡ Wanted → IsModuleWorkOf P r w → (first : Bool) × IsAtTerm P w r (term_wanted first)
when_term_wanted P w module_stuck is h = absurd h
when_term_wanted P w (module_reading joins (term_wanted first)) is h = (first, record { joins = joins; is = refl; sum = h.sum })
when_term_wanted P w (module_reading joins (numbered n)) is h = absurd (term_of P (numbered n) _ _ is h.term)
when_term_wanted P w (module_reading joins (scaling n)) is h = absurd (term_of P (scaling n) _ _ is h.term)
when_term_wanted P w (module_reading joins (term_stands m)) is h = absurd (term_of P (term_stands m) _ _ is h.term)
when_term_wanted P w (module_reading joins (multiplying m r)) is h = absurd (term_of P (multiplying m r) _ _ is h.term)

pub when_numbered : (P : Presentation) (w : ModuleWork) (r : ModuleReader) (n : ℕ) → w.term ≡ Number n → IsModuleWorkOf P r w → IsAtTerm P w r (numbered n)
when_numbered P w module_stuck n is h = absurd h
when_numbered P w (module_reading joins (term_wanted first)) n is h = absurd (term_of P (term_wanted first) _ _ is h.term)
when_numbered P w (module_reading joins (numbered m)) n is h = record { joins = joins; is = ap (λ (n : ℕ). module_reading joins (numbered n)) (sym (term_of P (numbered m) _ _ is h.term)); sum = h.sum }
when_numbered P w (module_reading joins (scaling m)) n is h = absurd (term_of P (scaling m) _ _ is h.term)
when_numbered P w (module_reading joins (term_stands m)) n is h = absurd (term_of P (term_stands m) _ _ is h.term)
when_numbered P w (module_reading joins (multiplying m r)) n is h = absurd (term_of P (multiplying m r) _ _ is h.term)

pub when_scaling : (P : Presentation) (w : ModuleWork) (r : ModuleReader) (n : ℕ) → w.term ≡ Scaling n → IsModuleWorkOf P r w → IsAtTerm P w r (scaling n)
when_scaling P w module_stuck n is h = absurd h
when_scaling P w (module_reading joins (term_wanted first)) n is h = absurd (term_of P (term_wanted first) _ _ is h.term)
when_scaling P w (module_reading joins (numbered m)) n is h = absurd (term_of P (numbered m) _ _ is h.term)
when_scaling P w (module_reading joins (scaling m)) n is h = record { joins = joins; is = ap (λ (n : ℕ). module_reading joins (scaling n)) (sym (term_of P (scaling m) _ _ is h.term)); sum = h.sum }
when_scaling P w (module_reading joins (term_stands m)) n is h = absurd (term_of P (term_stands m) _ _ is h.term)
when_scaling P w (module_reading joins (multiplying m r)) n is h = absurd (term_of P (multiplying m r) _ _ is h.term)

-- a term that stands
pub record StandsAs (P : Presentation) (w : ModuleWork) (r : ModuleReader) (v : Element) : Type 0 where
  pub expression : ModuleExpression
  pub worth : IsModuleWorth P expression v
  pub at : IsAtTerm P w r (term_stands expression)

pub when_term_stands : (P : Presentation) (w : ModuleWork) (r : ModuleReader) (v : Element) → w.term ≡ Standing v → IsModuleWorkOf P r w → StandsAs P w r v
when_term_stands P w module_stuck v is h = absurd h
when_term_stands P w (module_reading joins (term_wanted first)) v is h = absurd (term_of P (term_wanted first) _ _ is h.term)
when_term_stands P w (module_reading joins (numbered n)) v is h = absurd (term_of P (numbered n) _ _ is h.term)
when_term_stands P w (module_reading joins (scaling n)) v is h = absurd (term_of P (scaling n) _ _ is h.term)
when_term_stands P w (module_reading joins (term_stands m)) v is h =
    record { expression = m; worth = term_of P (term_stands m) _ _ is h.term; at = record { joins = joins; is = refl; sum = h.sum } }
when_term_stands P w (module_reading joins (multiplying m r)) v is h = absurd (term_of P (multiplying m r) _ _ is h.term)

-- a term and the front of a factor
pub record MultipliesBy (P : Presentation) (w : ModuleWork) (r : ModuleReader) (v : Element) (work : Work) : Type 0 where
  pub expression : ModuleExpression
  pub reader : Reader
  pub worth : IsModuleWorth P expression v
  pub is_work : IsWorkOf P reader work
  pub at : IsAtTerm P w r (multiplying expression reader)

pub when_multiplying : (P : Presentation) (w : ModuleWork) (r : ModuleReader) (v : Element) (work : Work) → w.term ≡ Multiplying v work → IsModuleWorkOf P r w → MultipliesBy P w r v work
when_multiplying P w module_stuck v work is h = absurd h
when_multiplying P w (module_reading joins (term_wanted first)) v work is h = absurd (term_of P (term_wanted first) _ _ is h.term)
when_multiplying P w (module_reading joins (numbered n)) v work is h = absurd (term_of P (numbered n) _ _ is h.term)
when_multiplying P w (module_reading joins (scaling n)) v work is h = absurd (term_of P (scaling n) _ _ is h.term)
when_multiplying P w (module_reading joins (term_stands m)) v work is h = absurd (term_of P (term_stands m) _ _ is h.term)
when_multiplying P w (module_reading joins (multiplying m r)) v work is h =
    let term = term_of P (multiplying m r) _ _ is h.term in
    record { expression = m; reader = r; worth = term.0; is_work = term.1; at = record { joins = joins; is = refl; sum = h.sum } }

-- generators

-- a generator that comes to stand, or the fault in its place
generator_stands : (P : Presentation) (w : ModuleWork) (r : ModuleReader) (t : Token) (state : ModuleReading) (m : ModuleExpression) (v : Element) → IsAtTerm P w r state
    → ((joins : ModuleExpression → ModuleExpression) → module_read (module_reading joins state) t ≡ module_reading joins (term_stands m)) → IsModuleWorth P m v
    → ModuleWorks P (module_read r t) (Ok (module_work w.pending (Standing v)))
generator_stands P w r t state m v at steps worth =
    let reads : module_read r t ≡ module_reading at.joins (term_stands m) = ap (λ (r : ModuleReader). module_read r t) at.is ∙ steps at.joins in
    rw reads (record { sum = at.sum; term = worth })

generator_fails : (P : Presentation) (w : ModuleWork) (r : ModuleReader) (t : Token) (state : ModuleReading) (m : ModuleExpression) (why : ValueFault) → IsAtTerm P w r state
    → ((joins : ModuleExpression → ModuleExpression) → module_read (module_reading joins state) t ≡ module_reading joins (term_stands m)) → Tells (λ cause. HasModuleValue P m (Err cause)) why
    → ModuleWorks P (module_read r t) (Err why)
generator_fails P w r t state m why at steps tells =
    let reads : module_read r t ≡ module_reading at.joins (term_stands m) = ap (λ (r : ModuleReader). module_read r t) at.is ∙ steps at.joins in
    rw reads (tells_more _ _ (λ cause h. inr (h, sum_passes P _ _ _ at.sum)) why tells)

first_generator : (x : List ℕ) (first : Bool) (joins : ModuleExpression → ModuleExpression) → module_read (module_reading joins (term_wanted first)) (name x) ≡ module_reading joins (term_stands (expressions.generator None x))
unfolding module_read
first_generator x first joins = refl

scaled_generator : (x : List ℕ) (n : ℕ) (joins : ModuleExpression → ModuleExpression) → module_read (module_reading joins (scaling n)) (name x) ≡ module_reading joins (term_stands (expressions.generator (Some n) x))
unfolding module_read
scaled_generator x n joins = refl

pub name_stands : (P : Presentation) (w : ModuleWork) (x : List ℕ) (v : Element) → w.term ≡ Wanted → IsModuleWorth P (expressions.generator None x) v → ReadsModuleOn P w (name x) (Ok (module_work w.pending (Standing v)))
name_stands P w x v is worth r h goes_on = let at = when_term_wanted P w r is h in generator_stands P w r (name x) _ _ v at.1 (first_generator x at.0) worth

pub name_fails : (P : Presentation) (w : ModuleWork) (x : List ℕ) (why : ValueFault) → w.term ≡ Wanted → Tells (λ cause. HasModuleValue P (expressions.generator None x) (Err cause)) why → ReadsModuleOn P w (name x) (Err why)
name_fails P w x why is tells r h goes_on = let at = when_term_wanted P w r is h in generator_fails P w r (name x) _ _ why at.1 (first_generator x at.0) tells

pub multiple_stands : (P : Presentation) (w : ModuleWork) (x : List ℕ) (n : ℕ) (v : Element) → w.term ≡ Scaling n → IsModuleWorth P (expressions.generator (Some n) x) v
    → ReadsModuleOn P w (name x) (Ok (module_work w.pending (Standing v)))
multiple_stands P w x n v is worth r h goes_on = generator_stands P w r (name x) _ _ v (when_scaling P w r n is h) (scaled_generator x n) worth

pub multiple_fails : (P : Presentation) (w : ModuleWork) (x : List ℕ) (n : ℕ) (why : ValueFault) → w.term ≡ Scaling n → Tells (λ cause. HasModuleValue P (expressions.generator (Some n) x) (Err cause)) why
    → ReadsModuleOn P w (name x) (Err why)
multiple_fails P w x n why is tells r h goes_on = generator_fails P w r (name x) _ _ why (when_scaling P w r n is h) (scaled_generator x n) tells

-- numbers

pub number_stands : (P : Presentation) (w : ModuleWork) (digits : List ℕ) (n : ℕ) → w.term ≡ Wanted → n ≡ number_value digits → ReadsModuleOn P w (number digits) (Ok (module_work w.pending (Number n)))
unfolding module_read
number_stands P w digits n is value r h goes_on =
    let at = when_term_wanted P w r is h in
    let reads : module_read r (number digits) ≡ module_reading at.1.joins (numbered (number_value digits)) = ap (λ (r : ModuleReader). module_read r (number digits)) at.1.is in
    rw reads (record { sum = at.1.sum; term = value })

pub scales : (P : Presentation) (w : ModuleWork) (b n : ℕ) → w.term ≡ Number n → first_sign b signs ≡ grammar.times → ReadsModuleOn P w (symbol b) (Ok (module_work w.pending (Scaling n)))
unfolding module_read behind_number
scales P w b n is sign r h goes_on =
    let at = when_numbered P w r n is h in
    let reads : module_read r (symbol b) ≡ module_reading at.joins (scaling n) =
    ap (λ (r : ModuleReader). module_read r (symbol b)) at.is ∙ ap (λ (s : grammar.Sign). behind_number s at.joins n) sign in
    rw reads (record { sum = at.sum; term = refl })

-- the number 0 is a term
pub zero_worth : (P : Presentation) (v : Element) → v ≡ [] → ((p : ℕ) → IsReduced Shortlex p v) → IsModuleWorth P nothing v
zero_worth P v is reduced = record { value = subst (λ (v : Element). HasModuleValue P nothing (Ok v)) (sym is) of_zero; reduced = reduced P.prime }

abbrev pub IsTermSign : Sign → Type 0
IsTermSign sign = (sign ≡ Plus) ⊎ (sign ≡ Minus)

zero_number : (sign : Sign) (joins : ModuleExpression → ModuleExpression) (n : ℕ) → IsTermSign sign → behind_number (read_as sign) joins n ≢ module_stuck
    → behind_number (read_as sign) joins n ≡ behind_term (read_as sign) joins nothing
unfolding behind_number
zero_number sign joins n (inl is) = rw is (by_zero (nat_eq n 0))
  where
    by_zero : (b : Bool) → cond b (behind_term grammar.plus joins nothing) module_stuck ≢ module_stuck → cond b (behind_term grammar.plus joins nothing) module_stuck ≡ behind_term grammar.plus joins nothing
    by_zero true h = refl
    by_zero false h = absurd (h refl)
zero_number sign joins n (inr is) = rw is (by_zero (nat_eq n 0))
  where
    by_zero : (b : Bool) → cond b (behind_term grammar.minus joins nothing) module_stuck ≢ module_stuck → cond b (behind_term grammar.minus joins nothing) module_stuck ≡ behind_term grammar.minus joins nothing
    by_zero true h = refl
    by_zero false h = absurd (h refl)

-- a number that goes on as a term, which is nothing
record GoesOnAsNothing (P : Presentation) (w : ModuleWork) (r : ModuleReader) (t : Token) : Type 0 where
  joins : ModuleExpression → ModuleExpression
  sum : IsModulePendingOf P joins w.pending
  reads : module_read r t ≡ module_read (module_reading joins (term_stands nothing)) t

as_nothing : (P : Presentation) (w : ModuleWork) (b n : ℕ) (sign : Sign) → w.term ≡ Number n → first_sign b signs ≡ read_as sign → IsTermSign sign
    → (r : ModuleReader) → IsModuleWorkOf P r w → module_read r (symbol b) ≢ module_stuck → GoesOnAsNothing P w r (symbol b)
unfolding module_read
as_nothing P w b n sign is signed term r h goes_on =
    let at = when_numbered P w r n is h in
    let number : module_read r (symbol b) ≡ behind_number (read_as sign) at.joins n =
    ap (λ (r : ModuleReader). module_read r (symbol b)) at.is ∙ ap (λ (s : grammar.Sign). behind_number s at.joins n) signed in
    let zero : behind_number (read_as sign) at.joins n ≡ behind_term (read_as sign) at.joins nothing = zero_number sign at.joins n term (λ e. goes_on (number ∙ e)) in
    record { joins = at.joins; sum = at.sum; reads = number ∙ zero ∙ ap (λ (s : grammar.Sign). behind_term s at.joins nothing) (sym signed) }

pub zero_can_read : (P : Presentation) (w : ModuleWork) (b n : ℕ) (sign : Sign) (v : Element) → w.term ≡ Number n → first_sign b signs ≡ read_as sign → IsTermSign sign → IsModuleWorth P nothing v
    → CanReadModule P w (symbol b) → CanReadModule P (module_work w.pending (Standing v)) (symbol b)
zero_can_read P w b n sign v is signed term worth can =
    let on = as_nothing P w b n sign is signed term can.reader can.is_work can.goes_on in
    record { reader = module_reading on.joins (term_stands nothing); is_work = record { sum = on.sum; term = worth }; goes_on = λ e. can.goes_on (on.reads ∙ e) }

pub zero_reads : (P : Presentation) (w : ModuleWork) (b n : ℕ) (sign : Sign) (v : Element) (result : Result ModuleWork ValueFault) → w.term ≡ Number n → first_sign b signs ≡ read_as sign → IsTermSign sign
    → IsModuleWorth P nothing v → ReadsModuleOn P (module_work w.pending (Standing v)) (symbol b) result → ReadsModuleOn P w (symbol b) result
zero_reads P w b n sign v result is signed term worth reads r h goes_on =
    let on = as_nothing P w b n sign is signed term r h goes_on in
    subst (λ (r : ModuleReader). ModuleWorks P r result) (sym on.reads)
    (reads (module_reading on.joins (term_stands nothing)) (record { sum = on.sum; term = worth }) (λ e. goes_on (on.reads ∙ e)))

-- first signs

plus_first : (P : Presentation) (first : Bool) → before_term grammar.plus first ≢ module_stuck → IsModuleWorkOf P (before_term grammar.plus first) (module_work (record { sum = None; is_negative = false }) Wanted)
unfolding before_term
plus_first P true h = record { sum = λ n. refl; term = tt }
plus_first P false h = absurd (h refl)

minus_first : (P : Presentation) (first : Bool) → before_term grammar.minus first ≢ module_stuck → IsModuleWorkOf P (before_term grammar.minus first) (module_work (record { sum = None; is_negative = true }) Wanted)
unfolding before_term
minus_first P true h = record { sum = λ n. refl; term = tt }
minus_first P false h = absurd (h refl)

pub first_plus : (P : Presentation) (w : ModuleWork) (b : ℕ) → w.term ≡ Wanted → first_sign b signs ≡ grammar.plus
    → ReadsModuleOn P w (symbol b) (Ok (module_work (record { sum = None; is_negative = false }) Wanted))
unfolding module_read
first_plus P w b is sign r h goes_on =
    let at = when_term_wanted P w r is h in
    let reads : module_read r (symbol b) ≡ before_term grammar.plus at.0 = ap (λ (r : ModuleReader). module_read r (symbol b)) at.1.is ∙ ap (λ (s : grammar.Sign). before_term s at.0) sign in
    rw reads (plus_first P at.0 (λ e. goes_on (reads ∙ e)))

pub first_minus : (P : Presentation) (w : ModuleWork) (b : ℕ) → w.term ≡ Wanted → first_sign b signs ≡ grammar.minus
    → ReadsModuleOn P w (symbol b) (Ok (module_work (record { sum = None; is_negative = true }) Wanted))
unfolding module_read
first_minus P w b is sign r h goes_on =
    let at = when_term_wanted P w r is h in
    let reads : module_read r (symbol b) ≡ before_term grammar.minus at.0 = ap (λ (r : ModuleReader). module_read r (symbol b)) at.1.is ∙ ap (λ (s : grammar.Sign). before_term s at.0) sign in
    rw reads (minus_first P at.0 (λ e. goes_on (reads ∙ e)))

-- behind a term

behind_sign : (P : Presentation) (w : ModuleWork) (v : Element) (b : ℕ) (sign : grammar.Sign) (result : Result ModuleWork ValueFault) → w.term ≡ Standing v → first_sign b signs ≡ sign
    → ((joins : ModuleExpression → ModuleExpression) (m : ModuleExpression) → IsModulePendingOf P joins w.pending → IsModuleWorth P m v → ModuleWorks P (behind_term sign joins m) result)
    → ReadsModuleOn P w (symbol b) result
unfolding module_read
behind_sign P w v b sign result is signed step r h goes_on =
    let found = when_term_stands P w r v is h in
    let reads : module_read r (symbol b) ≡ behind_term sign found.at.joins found.expression =
    ap (λ (r : ModuleReader). module_read r (symbol b)) found.at.is ∙ ap (λ (s : grammar.Sign). behind_term s found.at.joins found.expression) signed in
    subst (λ (r : ModuleReader). ModuleWorks P r result) (sym reads) (step found.at.joins found.expression found.at.sum found.worth)

factor_step : (P : Presentation) (w : ModuleWork) (v : Element) (start : Work) → IsWorkOf P factor_start start → (joins : ModuleExpression → ModuleExpression) (m : ModuleExpression)
    → IsModulePendingOf P joins w.pending → IsModuleWorth P m v → ModuleWorks P (behind_term grammar.times joins m) (Ok (module_work w.pending (Multiplying v start)))
unfolding behind_term
factor_step P w v start begun joins m sum worth = record { sum = sum; term = (worth, begun) }

pub begins_factor : (P : Presentation) (w : ModuleWork) (v : Element) (b : ℕ) (start : Work) → w.term ≡ Standing v → first_sign b signs ≡ grammar.times → IsWorkOf P factor_start start
    → ReadsModuleOn P w (symbol b) (Ok (module_work w.pending (Multiplying v start)))
begins_factor P w v b start is signed begun = behind_sign P w v b grammar.times (Ok _) is signed (factor_step P w v start begun)

-- what `total` gives
abbrev pub TotalGivesTerm : Presentation → ModulePending → Element → Result Element ValueFault → Type 0
TotalGivesTerm P pending v result = (joins : ModuleExpression → ModuleExpression) (m : ModuleExpression) → IsModulePendingOf P joins pending → IsModuleWorth P m v → GivesModule P (joins m) result

plus_step : (P : Presentation) (w : ModuleWork) (v u : Element) → TotalGivesTerm P w.pending v (Ok u) → (joins : ModuleExpression → ModuleExpression) (m : ModuleExpression)
    → IsModulePendingOf P joins w.pending → IsModuleWorth P m v → ModuleWorks P (behind_term grammar.plus joins m) (Ok (module_work (record { sum = Some u; is_negative = false }) Wanted))
unfolding behind_term
plus_step P w v u gives joins m sum worth = record { sum = (joins m, gives joins m sum worth, λ n. refl); term = tt }

minus_step : (P : Presentation) (w : ModuleWork) (v u : Element) → TotalGivesTerm P w.pending v (Ok u) → (joins : ModuleExpression → ModuleExpression) (m : ModuleExpression)
    → IsModulePendingOf P joins w.pending → IsModuleWorth P m v → ModuleWorks P (behind_term grammar.minus joins m) (Ok (module_work (record { sum = Some u; is_negative = true }) Wanted))
unfolding behind_term
minus_step P w v u gives joins m sum worth = record { sum = (joins m, gives joins m sum worth, λ n. refl); term = tt }

faulty_behind : (P : Presentation) (cause : Cause) (sign : Sign) (joins : ModuleExpression → ModuleExpression) (m : ModuleExpression) → IsTermSign sign → HasModuleValue P (joins m) (Err cause)
    → IsModuleFaulty P cause (behind_term (read_as sign) joins m)
unfolding behind_term
faulty_behind P cause sign joins m (inl is) h = rw is (inl (λ n. of_sum_left h))
faulty_behind P cause sign joins m (inr is) h = rw is (inl (λ n. of_difference_left h))

fail_step : (P : Presentation) (w : ModuleWork) (v : Element) (sign : Sign) (why : ValueFault) → IsTermSign sign → TotalGivesTerm P w.pending v (Err why)
    → (joins : ModuleExpression → ModuleExpression) (m : ModuleExpression) → IsModulePendingOf P joins w.pending → IsModuleWorth P m v → ModuleWorks P (behind_term (read_as sign) joins m) (Err why)
fail_step P w v sign why term gives joins m sum worth = tells_more _ _ (λ cause h. faulty_behind P cause sign joins m term h) why (gives joins m sum worth)

pub adds_term : (P : Presentation) (w : ModuleWork) (v u : Element) (b : ℕ) → w.term ≡ Standing v → first_sign b signs ≡ grammar.plus → TotalGivesTerm P w.pending v (Ok u)
    → ReadsModuleOn P w (symbol b) (Ok (module_work (record { sum = Some u; is_negative = false }) Wanted))
adds_term P w v u b is signed gives = behind_sign P w v b grammar.plus (Ok _) is signed (plus_step P w v u gives)

pub subtracts_term : (P : Presentation) (w : ModuleWork) (v u : Element) (b : ℕ) → w.term ≡ Standing v → first_sign b signs ≡ grammar.minus → TotalGivesTerm P w.pending v (Ok u)
    → ReadsModuleOn P w (symbol b) (Ok (module_work (record { sum = Some u; is_negative = true }) Wanted))
subtracts_term P w v u b is signed gives = behind_sign P w v b grammar.minus (Ok _) is signed (minus_step P w v u gives)

pub term_fails : (P : Presentation) (w : ModuleWork) (v : Element) (b : ℕ) (sign : Sign) (why : ValueFault) → w.term ≡ Standing v → first_sign b signs ≡ read_as sign → IsTermSign sign
    → TotalGivesTerm P w.pending v (Err why) → ReadsModuleOn P w (symbol b) (Err why)
term_fails P w v b sign why is signed term gives = behind_sign P w v b (read_as sign) (Err why) is signed (fail_step P w v sign why term gives)

-- factors

-- a factor that ends
pub record EndsFactor (P : Presentation) (w : ModuleWork) (r : ModuleReader) (v : Element) (work : Work) (t : Token) : Type 0 where
  pub found : MultipliesBy P w r v work
  pub factor : Expression
  pub is_read : expression_read found.reader ≡ Some factor
  pub reads : module_read r t ≡ module_read (module_reading found.at.joins (term_stands (expressions.product found.expression factor))) t

factor_ended : (joins : ModuleExpression → ModuleExpression) (m : ModuleExpression) (r : Reader) (e : Expression) (t : Token) → ends_factor t ≡ true
    → behind_factor joins m r (Some e) t ≡ module_read (module_reading joins (term_stands (expressions.product m e))) t
unfolding behind_factor module_read
factor_ended joins m r e (name x) ends = absurd (cc)
factor_ended joins m r e (number digits) ends = absurd (cc)
factor_ended joins m r e (symbol b) ends = rw ends refl

some_factor : (o : Option Expression) → is_some o ≡ true → (e : Expression) × (o ≡ Some e)
some_factor None h = absurd (cc)
some_factor (Some e) h = (e, refl)

pub ends_here : (P : Presentation) (w : ModuleWork) (v : Element) (work : Work) (t : Token) (whole : Bool) → w.term ≡ Multiplying v work
    → ((P : Presentation) (r : Reader) → IsWorkOf P r work → whole ≡ is_some (expression_read r)) → whole ≡ true → ends_factor t ≡ true
    → (r : ModuleReader) → IsModuleWorkOf P r w → EndsFactor P w r v work t
unfolding module_read
ends_here P w v work t whole is wholes stands ends r h =
    let found = when_multiplying P w r v work is h in
    let some = some_factor (expression_read found.reader) (sym (wholes P found.reader found.is_work) ∙ stands) in
    let joins = found.at.joins in
    let m = found.expression in
    record {
      found = found;
      factor = some.0;
      is_read = some.1;
      reads = ap (λ (r : ModuleReader). module_read r t) found.at.is ∙ ap (λ (o : Option Expression). behind_factor joins m found.reader o t) some.1 ∙ factor_ended joins m found.reader some.0 t ends;
    }

-- what `multiplied` gives
abbrev pub MultipliedGives : Presentation → Element → Work → Result Element ValueFault → Type 0
MultipliedGives P v work result = (m : ModuleExpression) (r : Reader) (e : Expression) → IsModuleWorth P m v → IsWorkOf P r work → expression_read r ≡ Some e → GivesModule P (expressions.product m e) result

pub product_can_read : (P : Presentation) (w : ModuleWork) (v u : Element) (work : Work) (t : Token) (whole : Bool) → w.term ≡ Multiplying v work
    → ((P : Presentation) (r : Reader) → IsWorkOf P r work → whole ≡ is_some (expression_read r)) → whole ≡ true → ends_factor t ≡ true → MultipliedGives P v work (Ok u)
    → CanReadModule P w t → CanReadModule P (module_work w.pending (Standing u)) t
product_can_read P w v u work t whole is wholes stands ends gives can =
    let ended = ends_here P w v work t whole is wholes stands ends can.reader can.is_work in
    let found = ended.found in
    record {
      reader = module_reading found.at.joins (term_stands (expressions.product found.expression ended.factor));
      is_work = record { sum = found.at.sum; term = gives found.expression found.reader ended.factor found.worth found.is_work ended.is_read };
      goes_on = λ e. can.goes_on (ended.reads ∙ e);
    }

pub product_reads : (P : Presentation) (w : ModuleWork) (v u : Element) (work : Work) (t : Token) (whole : Bool) (result : Result ModuleWork ValueFault) → w.term ≡ Multiplying v work
    → ((P : Presentation) (r : Reader) → IsWorkOf P r work → whole ≡ is_some (expression_read r)) → whole ≡ true → ends_factor t ≡ true → MultipliedGives P v work (Ok u)
    → ReadsModuleOn P (module_work w.pending (Standing u)) t result → ReadsModuleOn P w t result
product_reads P w v u work t whole result is wholes stands ends gives reads r h goes_on =
    let ended = ends_here P w v work t whole is wholes stands ends r h in
    let found = ended.found in
    subst (λ (r : ModuleReader). ModuleWorks P r result) (sym ended.reads)
    (reads (module_reading found.at.joins (term_stands (expressions.product found.expression ended.factor)))
    (record { sum = found.at.sum; term = gives found.expression found.reader ended.factor found.worth found.is_work ended.is_read }) (λ e. goes_on (ended.reads ∙ e)))

pub product_fails : (P : Presentation) (w : ModuleWork) (v : Element) (work : Work) (t : Token) (whole : Bool) (why : ValueFault) → w.term ≡ Multiplying v work
    → ((P : Presentation) (r : Reader) → IsWorkOf P r work → whole ≡ is_some (expression_read r)) → whole ≡ true → ends_factor t ≡ true → MultipliedGives P v work (Err why)
    → ReadsModuleOn P w t (Err why)
product_fails P w v work t whole why is wholes stands ends gives r h goes_on =
    let ended = ends_here P w v work t whole is wholes stands ends r h in
    let found = ended.found in
    subst (λ (r : ModuleReader). ModuleWorks P r (Err why)) (sym ended.reads)
    (tells_more _ _ (λ cause k. stays_module_faulty P cause (module_reading found.at.joins (term_stands (expressions.product found.expression ended.factor))) t (inr (k, sum_passes P _ _ _ found.at.sum))) why
    (gives found.expression found.reader ended.factor found.worth found.is_work ended.is_read))

-- a factor that goes on
factor_went_on : (joins : ModuleExpression → ModuleExpression) (m : ModuleExpression) (r : Reader) (o : Option Expression) (t : Token) → (is_some o && ends_factor t) ≡ false
    → behind_factor joins m r o t ≡ in_factor joins m (read r t)
unfolding behind_factor
factor_went_on joins m r None t is = refl
factor_went_on joins m r (Some e) (name x) is = refl
factor_went_on joins m r (Some e) (number digits) is = refl
factor_went_on joins m r (Some e) (symbol b) is = rw is refl

record FactorGoesOn (P : Presentation) (w : ModuleWork) (r : ModuleReader) (v : Element) (work : Work) (t : Token) : Type 0 where
  found : MultipliesBy P w r v work
  reads : module_read r t ≡ in_factor found.at.joins found.expression (read found.reader t)

within_here : (P : Presentation) (w : ModuleWork) (v : Element) (work : Work) (t : Token) (whole : Bool) → w.term ≡ Multiplying v work
    → ((P : Presentation) (r : Reader) → IsWorkOf P r work → whole ≡ is_some (expression_read r)) → (whole && ends_factor t) ≡ false
    → (r : ModuleReader) → IsModuleWorkOf P r w → FactorGoesOn P w r v work t
unfolding module_read
within_here P w v work t whole is wholes on r h =
    let found = when_multiplying P w r v work is h in
    let on = ap (λ b. b && ends_factor t) (sym (wholes P found.reader found.is_work)) ∙ on in
    record { found = found; reads = ap (λ (r : ModuleReader). module_read r t) found.at.is ∙ factor_went_on found.at.joins found.expression found.reader (expression_read found.reader) t on }

in_stuck : (joins : ModuleExpression → ModuleExpression) (m : ModuleExpression) (r : Reader) → r ≡ stuck → in_factor joins m r ≡ module_stuck
unfolding in_factor
in_stuck joins m r is = rw is refl

pub factor_can_read : (P : Presentation) (w : ModuleWork) (v : Element) (work : Work) (t : Token) (whole : Bool) → w.term ≡ Multiplying v work
    → ((P : Presentation) (r : Reader) → IsWorkOf P r work → whole ≡ is_some (expression_read r)) → (whole && ends_factor t) ≡ false → CanReadModule P w t → CanRead P work t
factor_can_read P w v work t whole is wholes on can =
    let inner = within_here P w v work t whole is wholes on can.reader can.is_work in
    record { reader = inner.found.reader; is_work = inner.found.is_work; goes_on = λ e. can.goes_on (inner.reads ∙ in_stuck _ _ _ e) }

factor_works : (P : Presentation) (w : ModuleWork) (joins : ModuleExpression → ModuleExpression) (m : ModuleExpression) (r : Reader) (v : Element) (next : Work) → IsModulePendingOf P joins w.pending
    → IsModuleWorth P m v → IsWorkOf P r next → IsModuleWorkOf P (in_factor joins m r) (module_work w.pending (Multiplying v next))
unfolding in_factor
factor_works P w joins m stuck v next sum worth h = absurd h
factor_works P w joins m (reading stack frame state) v next sum worth h = record { sum = sum; term = (worth, h) }

factor_faults : (P : Presentation) (cause : Cause) (joins : ModuleExpression → ModuleExpression) (m : ModuleExpression) (r : Reader) (v : Element) → Passes P joins → IsModuleWorth P m v → IsFaulty P cause r
    → IsModuleFaulty P cause (in_factor joins m r)
unfolding in_factor
factor_faults P cause joins m stuck v passes worth h = tt
factor_faults P cause joins m (reading stack frame state) v passes worth h = inr (inr ((v, worth.value), h), passes)

pub factor_reads : (P : Presentation) (w : ModuleWork) (v : Element) (work next : Work) (t : Token) (whole : Bool) → w.term ≡ Multiplying v work
    → ((P : Presentation) (r : Reader) → IsWorkOf P r work → whole ≡ is_some (expression_read r)) → (whole && ends_factor t) ≡ false → ReadsOn P work t (Ok next)
    → ReadsModuleOn P w t (Ok (module_work w.pending (Multiplying v next)))
factor_reads P w v work next t whole is wholes on reads r h goes_on =
    let inner = within_here P w v work t whole is wholes on r h in
    let found = inner.found in
    let next_work = reads found.reader found.is_work (λ e. goes_on (inner.reads ∙ in_stuck _ _ _ e)) in
    rw (inner.reads) (factor_works P w found.at.joins found.expression (read found.reader t) v next found.at.sum found.worth next_work)

pub factor_fails : (P : Presentation) (w : ModuleWork) (v : Element) (work : Work) (t : Token) (whole : Bool) (why : ValueFault) → w.term ≡ Multiplying v work
    → ((P : Presentation) (r : Reader) → IsWorkOf P r work → whole ≡ is_some (expression_read r)) → (whole && ends_factor t) ≡ false → ReadsOn P work t (Err why)
    → ReadsModuleOn P w t (Err why)
factor_fails P w v work t whole why is wholes on reads r h goes_on =
    let inner = within_here P w v work t whole is wholes on r h in
    let found = inner.found in
    let tells = reads found.reader found.is_work (λ e. goes_on (inner.reads ∙ in_stuck _ _ _ e)) in
    rw (inner.reads) (tells_more _ _ (λ cause k. factor_faults P cause found.at.joins found.expression (read found.reader t) v (sum_passes P _ _ _ found.at.sum) found.worth k) why tells)

-- tokens that can't follow

pub wanted_never : (P : Presentation) (w : ModuleWork) (t : Token) → w.term ≡ Wanted
    → ((joins : ModuleExpression → ModuleExpression) (first : Bool) → module_read (module_reading joins (term_wanted first)) t ≡ module_stuck) → CanReadModule P w t → ⊥
wanted_never P w t is steps can =
    let at = when_term_wanted P w can.reader is can.is_work in
    can.goes_on (ap (λ (r : ModuleReader). module_read r t) at.1.is ∙ steps at.1.joins at.0)

pub number_never : (P : Presentation) (w : ModuleWork) (n : ℕ) (t : Token) → w.term ≡ Number n
    → ((joins : ModuleExpression → ModuleExpression) → module_read (module_reading joins (numbered n)) t ≡ module_stuck) → CanReadModule P w t → ⊥
number_never P w n t is steps can =
    let at = when_numbered P w can.reader n is can.is_work in
    can.goes_on (ap (λ (r : ModuleReader). module_read r t) at.is ∙ steps at.joins)

pub scaling_never : (P : Presentation) (w : ModuleWork) (n : ℕ) (t : Token) → w.term ≡ Scaling n
    → ((joins : ModuleExpression → ModuleExpression) → module_read (module_reading joins (scaling n)) t ≡ module_stuck) → CanReadModule P w t → ⊥
scaling_never P w n t is steps can =
    let at = when_scaling P w can.reader n is can.is_work in
    can.goes_on (ap (λ (r : ModuleReader). module_read r t) at.is ∙ steps at.joins)

pub standing_never : (P : Presentation) (w : ModuleWork) (v : Element) (t : Token) → w.term ≡ Standing v
    → ((joins : ModuleExpression → ModuleExpression) (m : ModuleExpression) → module_read (module_reading joins (term_stands m)) t ≡ module_stuck) → CanReadModule P w t → ⊥
standing_never P w v t is steps can =
    let found = when_term_stands P w can.reader v is can.is_work in
    can.goes_on (ap (λ (r : ModuleReader). module_read r t) found.at.is ∙ steps found.at.joins found.expression)

pub never_first : (b : ℕ) (sign : Sign) → first_sign b signs ≡ read_as sign → (sign ≡ Times) ⊎ ((sign ≡ Power) ⊎ ((sign ≡ Open) ⊎ ((sign ≡ Close) ⊎ (sign ≡ Other))))
    → (joins : ModuleExpression → ModuleExpression) (first : Bool) → module_read (module_reading joins (term_wanted first)) (symbol b) ≡ module_stuck
unfolding module_read before_term
never_first b sign is (inl which) joins first = rw (is, which) refl
never_first b sign is (inr (inl which)) joins first = rw (is, which) refl
never_first b sign is (inr (inr (inl which))) joins first = rw (is, which) refl
never_first b sign is (inr (inr (inr (inl which)))) joins first = rw (is, which) refl
never_first b sign is (inr (inr (inr (inr which)))) joins first = rw (is, which) refl

abbrev pub IsNoJoining : Sign → Type 0
IsNoJoining sign = (sign ≡ Power) ⊎ ((sign ≡ Open) ⊎ ((sign ≡ Close) ⊎ (sign ≡ Other)))

pub never_behind_number : (b n : ℕ) (sign : Sign) → first_sign b signs ≡ read_as sign → IsNoJoining sign
    → (joins : ModuleExpression → ModuleExpression) → module_read (module_reading joins (numbered n)) (symbol b) ≡ module_stuck
unfolding module_read behind_number
never_behind_number b n sign is (inl which) joins = rw (is, which) refl
never_behind_number b n sign is (inr (inl which)) joins = rw (is, which) refl
never_behind_number b n sign is (inr (inr (inl which))) joins = rw (is, which) refl
never_behind_number b n sign is (inr (inr (inr which))) joins = rw (is, which) refl

pub never_behind : (b : ℕ) (sign : Sign) → first_sign b signs ≡ read_as sign → IsNoJoining sign
    → (joins : ModuleExpression → ModuleExpression) (m : ModuleExpression) → module_read (module_reading joins (term_stands m)) (symbol b) ≡ module_stuck
unfolding module_read behind_term
never_behind b sign is (inl which) joins m = rw (is, which) refl
never_behind b sign is (inr (inl which)) joins m = rw (is, which) refl
never_behind b sign is (inr (inr (inl which))) joins m = rw (is, which) refl
never_behind b sign is (inr (inr (inr which))) joins m = rw (is, which) refl

pub name_numbered : (x : List ℕ) (n : ℕ) (joins : ModuleExpression → ModuleExpression) → module_read (module_reading joins (numbered n)) (name x) ≡ module_stuck
unfolding module_read
name_numbered x n joins = refl

pub number_numbered : (digits : List ℕ) (n : ℕ) (joins : ModuleExpression → ModuleExpression) → module_read (module_reading joins (numbered n)) (number digits) ≡ module_stuck
unfolding module_read
number_numbered digits n joins = refl

pub number_scaled : (digits : List ℕ) (n : ℕ) (joins : ModuleExpression → ModuleExpression) → module_read (module_reading joins (scaling n)) (number digits) ≡ module_stuck
unfolding module_read
number_scaled digits n joins = refl

pub symbol_scaled : (b n : ℕ) (joins : ModuleExpression → ModuleExpression) → module_read (module_reading joins (scaling n)) (symbol b) ≡ module_stuck
unfolding module_read
symbol_scaled b n joins = refl

pub name_behind : (x : List ℕ) (joins : ModuleExpression → ModuleExpression) (m : ModuleExpression) → module_read (module_reading joins (term_stands m)) (name x) ≡ module_stuck
unfolding module_read
name_behind x joins m = refl

pub number_behind : (digits : List ℕ) (joins : ModuleExpression → ModuleExpression) (m : ModuleExpression) → module_read (module_reading joins (term_stands m)) (number digits) ≡ module_stuck
unfolding module_read
number_behind digits joins m = refl

-- whole expressions

pub wanted_not_whole : (P : Presentation) (w : ModuleWork) (r : ModuleReader) → w.term ≡ Wanted → IsModuleWorkOf P r w → IsTrue (is_some (module_expression_read r)) → ⊥
unfolding module_expression_read
wanted_not_whole P w r is h whole =
    let at = when_term_wanted P w r is h in
    let both : false ≡ true = ap (λ (r : ModuleReader). is_some (module_expression_read r)) (sym at.1.is) ∙ whole in
    (cc)

pub scaling_not_whole : (P : Presentation) (w : ModuleWork) (r : ModuleReader) (n : ℕ) → w.term ≡ Scaling n → IsModuleWorkOf P r w → IsTrue (is_some (module_expression_read r)) → ⊥
unfolding module_expression_read
scaling_not_whole P w r n is h whole =
    let at = when_scaling P w r n is h in
    let both : false ≡ true = ap (λ (r : ModuleReader). is_some (module_expression_read r)) (sym at.is) ∙ whole in
    (cc)

zero_alone : (joins : ModuleExpression → ModuleExpression) (b : Bool) (m : ModuleExpression) → cond b (Some (joins nothing)) None ≡ Some m → joins nothing ≡ m
zero_alone joins true m is = (cc)
zero_alone joins false m is = absurd (cc)

pub zero_finishes : (P : Presentation) (w : ModuleWork) (n : ℕ) (v : Element) (result : Result Element ValueFault) → w.term ≡ Number n → IsModuleWorth P nothing v → TotalGivesTerm P w.pending v result
    → (r : ModuleReader) (m : ModuleExpression) → IsModuleWorkOf P r w → module_expression_read r ≡ Some m → GivesModule P m result
unfolding module_expression_read
zero_finishes P w n v result is worth gives r m h whole =
    let at = when_numbered P w r n is h in
    let same = zero_alone at.joins (nat_eq n 0) m (ap module_expression_read (sym at.is) ∙ whole) in
    subst (λ (m : ModuleExpression). GivesModule P m result) same (gives at.joins nothing at.sum worth)

pub term_finishes : (P : Presentation) (w : ModuleWork) (v : Element) (result : Result Element ValueFault) → w.term ≡ Standing v → TotalGivesTerm P w.pending v result
    → (r : ModuleReader) (m : ModuleExpression) → IsModuleWorkOf P r w → module_expression_read r ≡ Some m → GivesModule P m result
unfolding module_expression_read
term_finishes P w v result is gives r m h whole =
    let found = when_term_stands P w r v is h in
    let both : Some (found.at.joins found.expression) ≡ Some m = ap module_expression_read (sym found.at.is) ∙ whole in
    let same : found.at.joins found.expression ≡ m = (cc) in
    subst (λ (m : ModuleExpression). GivesModule P m result) same (gives found.at.joins found.expression found.at.sum found.worth)

-- a whole expression that ends with a factor
pub record EndsWithFactor (P : Presentation) (w : ModuleWork) (r : ModuleReader) (v : Element) (work : Work) (m : ModuleExpression) : Type 0 where
  pub found : MultipliesBy P w r v work
  pub factor : Expression
  pub is_read : expression_read found.reader ≡ Some factor
  pub is : found.at.joins (expressions.product found.expression factor) ≡ m

whole_with : (joins : ModuleExpression → ModuleExpression) (n m : ModuleExpression) (o : Option Expression) → multiplied_whole joins n o ≡ Some m
    → (e : Expression) × (o ≡ Some e) × (joins (expressions.product n e) ≡ m)
whole_with joins n m None is = absurd (cc)
whole_with joins n m (Some e) is = (e, refl, (cc))

pub ends_with_factor : (P : Presentation) (w : ModuleWork) (v : Element) (work : Work) → w.term ≡ Multiplying v work → (r : ModuleReader) (m : ModuleExpression) → IsModuleWorkOf P r w
    → module_expression_read r ≡ Some m → EndsWithFactor P w r v work m
unfolding module_expression_read
ends_with_factor P w v work is r m h whole =
    let found = when_multiplying P w r v work is h in
    let parts = whole_with found.at.joins found.expression m (expression_read found.reader) (ap module_expression_read (sym found.at.is) ∙ whole) in
    record { found = found; factor = parts.0; is_read = parts.1; is = parts.2 }

pub product_finishes : (P : Presentation) (w : ModuleWork) (v u : Element) (work : Work) (result : Result Element ValueFault) → w.term ≡ Multiplying v work → MultipliedGives P v work (Ok u)
    → TotalGivesTerm P w.pending u result → (r : ModuleReader) (m : ModuleExpression) → IsModuleWorkOf P r w → module_expression_read r ≡ Some m → GivesModule P m result
product_finishes P w v u work result is multiplied gives r m h whole =
    let ended = ends_with_factor P w v work is r m h whole in
    let found = ended.found in
    subst (λ (m : ModuleExpression). GivesModule P m result) ended.is
    (gives found.at.joins _ found.at.sum (multiplied found.expression found.reader ended.factor found.worth found.is_work ended.is_read))

pub product_fails_at_end : (P : Presentation) (w : ModuleWork) (v : Element) (work : Work) (why : ValueFault) → w.term ≡ Multiplying v work → MultipliedGives P v work (Err why)
    → (r : ModuleReader) (m : ModuleExpression) → IsModuleWorkOf P r w → module_expression_read r ≡ Some m → GivesModule P m (Err why)
product_fails_at_end P w v work why is multiplied r m h whole =
    let ended = ends_with_factor P w v work is r m h whole in
    let found = ended.found in
    subst (λ (m : ModuleExpression). GivesModule P m (Err why)) ended.is
    (tells_more _ _ (λ cause k. sum_passes P _ _ _ found.at.sum _ cause k) why (multiplied found.expression found.reader ended.factor found.worth found.is_work ended.is_read))

-- what stands of a whole expression

pub some_whole : (o : Option ModuleExpression) → IsTrue (is_some o) → (m : ModuleExpression) × (o ≡ Some m)
some_whole None h = absurd (cc)
some_whole (Some m) h = (m, refl)

pub can_multiply : (P : Presentation) (w : ModuleWork) (v : Element) (work : Work) → w.term ≡ Multiplying v work → (r : ModuleReader) → IsModuleWorkOf P r w → IsTrue (is_some (module_expression_read r))
    → (m : ModuleExpression) × (inner : Reader) × IsModuleWorth P m v × IsWorkOf P inner work × IsTrue (is_some (expression_read inner))
can_multiply P w v work is r h whole =
    let some = some_whole (module_expression_read r) whole in
    let ended = ends_with_factor P w v work is r some.0 h some.1 in
    let found = ended.found in
    (found.expression, found.reader, found.worth, found.is_work, ap is_some (ended.is_read))

pub can_total_product : (P : Presentation) (w : ModuleWork) (v u : Element) (work : Work) → w.term ≡ Multiplying v work → (r : ModuleReader) → IsModuleWorkOf P r w → IsTrue (is_some (module_expression_read r))
    → MultipliedGives P v work (Ok u) → (joins : ModuleExpression → ModuleExpression) × (m : ModuleExpression) × IsModulePendingOf P joins w.pending × IsModuleWorth P m u
can_total_product P w v u work is r h whole gives =
    let some = some_whole (module_expression_read r) whole in
    let ended = ends_with_factor P w v work is r some.0 h some.1 in
    let found = ended.found in
    (found.at.joins, expressions.product found.expression ended.factor, found.at.sum, gives found.expression found.reader ended.factor found.worth found.is_work ended.is_read)

pub can_total_zero : (P : Presentation) (w : ModuleWork) (n : ℕ) (v : Element) → w.term ≡ Number n → IsModuleWorth P nothing v → (r : ModuleReader) → IsModuleWorkOf P r w
    → (joins : ModuleExpression → ModuleExpression) × (m : ModuleExpression) × IsModulePendingOf P joins w.pending × IsModuleWorth P m v
can_total_zero P w n v is worth r h = let at = when_numbered P w r n is h in (at.joins, nothing, at.sum, worth)
