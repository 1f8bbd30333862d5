-- A fault of the front of an expression of the module is one of the whole.
use Rattle.std.proofs.Common.{◌≡◌, ℕ, Bool, true, false, cond, nat_eq, List, [], ◌∷◌, Option, Some, None, Err, refl, subst, inl, inr, ◌⊎◌}
use Rattle.ve_theory.specs.Presentations.{Presentation}
use Rattle.ve_formats.specs.Causes.{Cause}
use Rattle.ve_formats.specs.Tokens.{Token, name, number, symbol}
use Rattle.ve_formats.specs.Expressions.{Expression}
use Rattle.ve_formats.specs.ModuleExpressions as expressions
use Rattle.ve_formats.specs.ModuleExpressions.{ModuleExpression, nothing}
use Rattle.ve_formats.specs.ModuleValues.{HasModuleValue, of_product_left, of_product_right, of_sum_left, of_difference_left}
use Rattle.ve_formats.specs.Reading as grammar
use Rattle.ve_formats.specs.Reading.{Reader, stuck, reading, first_sign, signs, read, expression_read}
use Rattle.ve_formats.specs.ModuleReading.{ModuleReading, ModuleReader, module_stuck, module_reading, term_wanted, numbered, scaling, term_stands, multiplying, in_factor, before_term, behind_term, behind_number, behind_factor, is_joining, module_read, module_read_all, multiplied_whole, module_expression_read}
use Rattle.ve_value.specs.ModuleEvaluation.{IsFaultySum, Passes, IsFaultyTerm, IsModuleFaulty}
use Rattle.ve_value.proofs.FaultyFronts.{stays_faulty, faulty_at_end}

-- the fault of a term, or of the sum that it is joined to
abbrev pub IsFaultyWithTerm : Presentation → Cause → (ModuleExpression → ModuleExpression) → ModuleReading → Type 0
IsFaultyWithTerm P cause joins state = IsFaultySum P cause joins ⊎ (IsFaultyTerm P cause state × Passes P joins)

faulty_with : (P : Presentation) (cause : Cause) (joins : ModuleExpression → ModuleExpression) (m : ModuleExpression) → IsFaultyWithTerm P cause joins (term_stands m) → HasModuleValue P (joins m) (Err cause)
faulty_with P cause joins m (inl h) = h m
faulty_with P cause joins m (inr (h, passes)) = passes m cause h

only_sum : (P : Presentation) (cause : Cause) (joins : ModuleExpression → ModuleExpression) (state : ModuleReading) → (IsFaultyTerm P cause state → ⊥) → IsFaultyWithTerm P cause joins state → IsFaultySum P cause joins
only_sum P cause joins state never (inl h) = h
only_sum P cause joins state never (inr (h, passes)) = absurd (never h)

pub behind_faulty : (P : Presentation) (cause : Cause) (sign : grammar.Sign) (joins : ModuleExpression → ModuleExpression) (m : ModuleExpression) → IsFaultyWithTerm P cause joins (term_stands m)
    → IsModuleFaulty P cause (behind_term sign joins m)
unfolding behind_term
behind_faulty P cause grammar.times joins m (inl h) = inl h
behind_faulty P cause grammar.times joins m (inr (h, passes)) = inr (inl h, passes)
behind_faulty P cause grammar.plus joins m h = inl (λ n. of_sum_left (faulty_with P cause joins m h))
behind_faulty P cause grammar.minus joins m h = inl (λ n. of_difference_left (faulty_with P cause joins m h))
behind_faulty P cause grammar.raise joins m h = tt
behind_faulty P cause grammar.open_ joins m h = tt
behind_faulty P cause grammar.close_ joins m h = tt
behind_faulty P cause grammar.other joins m h = tt

number_faulty : (P : Presentation) (cause : Cause) (sign : grammar.Sign) (joins : ModuleExpression → ModuleExpression) (n : ℕ) → IsFaultySum P cause joins → IsModuleFaulty P cause (behind_number sign joins n)
unfolding behind_number
number_faulty P cause grammar.times joins n h = inl h
number_faulty P cause grammar.plus joins n h = by_zero (nat_eq n 0)
  where
    by_zero : (b : Bool) → IsModuleFaulty P cause (cond b (behind_term grammar.plus joins nothing) module_stuck)
    by_zero true = behind_faulty P cause grammar.plus joins nothing (inl h)
    by_zero false = tt
number_faulty P cause grammar.minus joins n h = by_zero (nat_eq n 0)
  where
    by_zero : (b : Bool) → IsModuleFaulty P cause (cond b (behind_term grammar.minus joins nothing) module_stuck)
    by_zero true = behind_faulty P cause grammar.minus joins nothing (inl h)
    by_zero false = tt
number_faulty P cause grammar.raise joins n h = tt
number_faulty P cause grammar.open_ joins n h = tt
number_faulty P cause grammar.close_ joins n h = tt
number_faulty P cause grammar.other joins n h = tt

before_faulty : (P : Presentation) (cause : Cause) (sign : grammar.Sign) → IsModuleFaulty P cause (before_term sign false)
unfolding before_term
before_faulty P cause grammar.plus = tt
before_faulty P cause grammar.minus = tt
before_faulty P cause grammar.times = tt
before_faulty P cause grammar.raise = tt
before_faulty P cause grammar.open_ = tt
before_faulty P cause grammar.close_ = tt
before_faulty P cause grammar.other = tt

-- a factor that is read further
in_factor_faulty : (P : Presentation) (cause : Cause) (joins : ModuleExpression → ModuleExpression) (m : ModuleExpression) (r : Reader) → IsFaultyWithTerm P cause joins (multiplying m r)
    → IsModuleFaulty P cause (in_factor joins m r)
unfolding in_factor
in_factor_faulty P cause joins m stuck h = tt
in_factor_faulty P cause joins m (reading stack frame state) h = h

factor_further : (P : Presentation) (cause : Cause) (joins : ModuleExpression → ModuleExpression) (m : ModuleExpression) (r : Reader) (t : Token) → IsFaultyWithTerm P cause joins (multiplying m r)
    → IsModuleFaulty P cause (in_factor joins m (read r t))
factor_further P cause joins m r t (inl h) = in_factor_faulty P cause joins m (read r t) (inl h)
factor_further P cause joins m r t (inr (inl h, passes)) = in_factor_faulty P cause joins m (read r t) (inr (inl h, passes))
factor_further P cause joins m r t (inr (inr (worth, h), passes)) = in_factor_faulty P cause joins m (read r t) (inr (inr (worth, stays_faulty P cause r t h), passes))

-- a factor that ends
product_faulty : (P : Presentation) (cause : Cause) (joins : ModuleExpression → ModuleExpression) (m : ModuleExpression) (r : Reader) (e : Expression) → expression_read r ≡ Some e
    → IsFaultyWithTerm P cause joins (multiplying m r) → IsFaultyWithTerm P cause joins (term_stands (expressions.product m e))
product_faulty P cause joins m r e is (inl h) = inl h
product_faulty P cause joins m r e is (inr (inl h, passes)) = inr (of_product_left h, passes)
product_faulty P cause joins m r e is (inr (inr (worth, h), passes)) = inr (of_product_right worth.1 (faulty_at_end P cause r e h is), passes)

factor_faulty : (P : Presentation) (cause : Cause) (joins : ModuleExpression → ModuleExpression) (m : ModuleExpression) (r : Reader) (o : Option Expression) (t : Token) → expression_read r ≡ o
    → IsFaultyWithTerm P cause joins (multiplying m r) → IsModuleFaulty P cause (behind_factor joins m r o t)
unfolding behind_factor
factor_faulty P cause joins m r None t is h = factor_further P cause joins m r t h
factor_faulty P cause joins m r (Some e) (name x) is h = factor_further P cause joins m r (name x) h
factor_faulty P cause joins m r (Some e) (number digits) is h = factor_further P cause joins m r (number digits) h
factor_faulty P cause joins m r (Some e) (symbol b) is h = by_sign (is_joining (first_sign b signs))
  where
    by_sign : (ends : Bool) → IsModuleFaulty P cause (cond ends (behind_term (first_sign b signs) joins (expressions.product m e)) (in_factor joins m (read r (symbol b))))
    by_sign true = behind_faulty P cause (first_sign b signs) joins _ (product_faulty P cause joins m r e is h)
    by_sign false = factor_further P cause joins m r (symbol b) h

pub stays_module_faulty : (P : Presentation) (cause : Cause) (r : ModuleReader) (t : Token) → IsModuleFaulty P cause r → IsModuleFaulty P cause (module_read r t)
unfolding module_read
stays_module_faulty P cause module_stuck t h = tt
stays_module_faulty P cause (module_reading joins (term_wanted true)) t h = absurd h
stays_module_faulty P cause (module_reading joins (term_wanted false)) (name x) h = inl (only_sum P cause joins (term_wanted false) (λ e. e) h)
stays_module_faulty P cause (module_reading joins (term_wanted false)) (number digits) h = inl (only_sum P cause joins (term_wanted false) (λ e. e) h)
stays_module_faulty P cause (module_reading joins (term_wanted false)) (symbol b) h = before_faulty P cause (first_sign b signs)
stays_module_faulty P cause (module_reading joins (numbered n)) (name x) h = tt
stays_module_faulty P cause (module_reading joins (numbered n)) (number digits) h = tt
stays_module_faulty P cause (module_reading joins (numbered n)) (symbol b) h = number_faulty P cause (first_sign b signs) joins n (only_sum P cause joins (numbered n) (λ e. e) h)
stays_module_faulty P cause (module_reading joins (scaling n)) (name x) h = inl (only_sum P cause joins (scaling n) (λ e. e) h)
stays_module_faulty P cause (module_reading joins (scaling n)) (number digits) h = tt
stays_module_faulty P cause (module_reading joins (scaling n)) (symbol b) h = tt
stays_module_faulty P cause (module_reading joins (term_stands m)) (name x) h = tt
stays_module_faulty P cause (module_reading joins (term_stands m)) (number digits) h = tt
stays_module_faulty P cause (module_reading joins (term_stands m)) (symbol b) h = behind_faulty P cause (first_sign b signs) joins m h
stays_module_faulty P cause (module_reading joins (multiplying m r)) t h = factor_faulty P cause joins m r (expression_read r) t refl h

faulty_nothing : (P : Presentation) (cause : Cause) (joins : ModuleExpression → ModuleExpression) (b : Bool) (m : ModuleExpression) → IsFaultySum P cause joins → cond b (Some (joins nothing)) None ≡ Some m
    → HasModuleValue P m (Err cause)
faulty_nothing P cause joins true m h is = let same : joins nothing ≡ m = (cc) in subst (λ (m : ModuleExpression). HasModuleValue P m (Err cause)) same (h nothing)
faulty_nothing P cause joins false m h is = absurd (cc)

faulty_product_whole : (P : Presentation) (cause : Cause) (joins : ModuleExpression → ModuleExpression) (m n : ModuleExpression) (r : Reader) (o : Option Expression) → expression_read r ≡ o
    → IsFaultyWithTerm P cause joins (multiplying m r) → multiplied_whole joins m o ≡ Some n → HasModuleValue P n (Err cause)
faulty_product_whole P cause joins m n r None is h whole = absurd (cc)
faulty_product_whole P cause joins m n r (Some e) is h whole =
    let same : joins (expressions.product m e) ≡ n = (cc) in
    subst (λ (n : ModuleExpression). HasModuleValue P n (Err cause)) same (faulty_with P cause joins _ (product_faulty P cause joins m r e is h))

pub module_faulty_at_end : (P : Presentation) (cause : Cause) (r : ModuleReader) (m : ModuleExpression) → IsModuleFaulty P cause r → module_expression_read r ≡ Some m → HasModuleValue P m (Err cause)
unfolding module_expression_read
module_faulty_at_end P cause module_stuck m h is = absurd (cc)
module_faulty_at_end P cause (module_reading joins (term_wanted true)) m h is = absurd h
module_faulty_at_end P cause (module_reading joins (term_wanted false)) m h is = absurd (cc)
module_faulty_at_end P cause (module_reading joins (numbered n)) m h is = faulty_nothing P cause joins (nat_eq n 0) m (only_sum P cause joins (numbered n) (λ e. e) h) is
module_faulty_at_end P cause (module_reading joins (scaling n)) m h is = absurd (cc)
module_faulty_at_end P cause (module_reading joins (term_stands n)) m h is =
    let same : joins n ≡ m = (cc) in subst (λ (m : ModuleExpression). HasModuleValue P m (Err cause)) same (faulty_with P cause joins n h)
module_faulty_at_end P cause (module_reading joins (multiplying n r)) m h is = faulty_product_whole P cause joins n m r (expression_read r) refl h is

pub module_faulty_to_the_end : (P : Presentation) (cause : Cause) (r : ModuleReader) (rest : List Token) (m : ModuleExpression) → IsModuleFaulty P cause r
    → module_expression_read (module_read_all r rest) ≡ Some m → HasModuleValue P m (Err cause)
unfolding module_read_all
module_faulty_to_the_end P cause r [] m h is = module_faulty_at_end P cause r m h is
module_faulty_to_the_end P cause r (t ∷ rest) m h is = module_faulty_to_the_end P cause (module_read r t) rest m (stays_module_faulty P cause r t h) is
