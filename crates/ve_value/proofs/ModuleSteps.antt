-- What a token does to the shape of a reader of the module.
use Rattle.std.proofs.Common.{◌≡◌, ℕ, zero, suc, ◌+◌, ◌-◌, ◌*◌, ◌^◌, ◌<◌, ◌≤◌, Bool, true, false, cond, nat_eq, List, [], ◌∷◌, length, Option, Some, None, is_some, refl, sym, ap, ◌∙◌, subst, arith, inl, inr, ◌⊎◌}
use Rattle.std.specs.Prelude.{◌&&◌, nat_le}
use Rattle.std.specs.List.{list_all}
use Rattle.std.proofs.Math.Nat.{mul-pos, pow-suc}
use Rattle.std.proofs.lemmas.Bool.{leb-true, leb-false, ne_eqb}
use Rattle.ve_formats.specs.Tokens.{Token, name, number, symbol, number_value}
use Rattle.ve_formats.specs.Expressions.{Expression}
use Rattle.ve_formats.specs.ModuleExpressions.{ModuleExpression, nothing, product}
use Rattle.ve_formats.specs.Reading as grammar
use Rattle.ve_formats.specs.Reading.{Reader, stuck, reading, first_sign, signs, read, expression_read}
use Rattle.ve_formats.specs.ModuleReading.{ModuleReader, module_stuck, module_reading, term_wanted, numbered, scaling, term_stands, multiplying, module_start, in_factor, before_term, behind_term, behind_number, behind_factor, module_read, module_read_all, multiplied_whole, module_expression_read, module_parsed}
use Rattle.ve_value.specs.declared.shape.Place.TheVariants.{Wanted as FactorWanted}
use Rattle.ve_value.specs.declared.shape.Shape.{Shape}
use Rattle.ve_value.specs.declared.module_shape.ModuleShape.{ModuleShape}
use Rattle.ve_value.specs.declared.module_shape.ModuleShape.TheVariants.{Wanted, Number, Scaling, Standing, Multiplying}
use Rattle.ve_value.specs.declared.sign.Sign.{Sign}
use Rattle.ve_value.specs.declared.sign.Sign.TheVariants.{Plus, Minus, Times, Power, Open, Close, Other}
use Rattle.ve_value.specs.Signs.{read_as}
use Rattle.ve_value.specs.Shapes.{shape_of}
use Rattle.ve_value.specs.ModuleShapes.{factor_shape, module_shape_of, StepsTo, ends_factor}
use Rattle.ve_value.proofs.ShapeSteps.{shape, is_stuck}

ten_pos : (n : ℕ) → 0 < 10 ^ n
ten_pos zero = omega arith
ten_pos (suc n) = let before = ten_pos n in rw pow-suc (omega arith)

some_counts : (a n m : ℕ) → 0 < a → a * 10 ^ n + m ≡ 0 → ⊥
some_counts a n m some none =
    let power : 0 < 10 ^ n = ten_pos n in
    let product : 0 < a * 10 ^ n = mul-pos some power in
    omega arith

zero_first : (b : Bool) (d : ℕ) (ds : List ℕ) → nat_le d 48 ≡ b → list_all (λ d. nat_le d 48) ds ≡ nat_eq (number_value ds) 0
    → (nat_le d 48 && list_all (λ d. nat_le d 48) ds) ≡ nat_eq ((d - 48) * 10 ^ length ds + number_value ds) 0
zero_first true d ds is h =
    let low : d ≤ 48 = leb-true d 48 is in
    let none : d - 48 ≡ 0 = omega arith in
    let same : number_value ds ≡ (d - 48) * 10 ^ length ds + number_value ds = rw none (omega arith) in
    ap (λ b. b && list_all (λ d. nat_le d 48) ds) is ∙ h ∙ ap (λ n. nat_eq n 0) same
zero_first false d ds is h =
    let high : 0 < d - 48 = (let over = leb-false d 48 is in omega (arith, over)) in
    ap (λ b. b && list_all (λ d. nat_le d 48) ds) is ∙ sym (ne_eqb _ _ (λ none. some_counts (d - 48) (length ds) (number_value ds) high none))

-- digits of which none counts anything
pub zero_digits : (ds : List ℕ) → list_all (λ d. nat_le d 48) ds ≡ nat_eq (number_value ds) 0
zero_digits [] = refl
zero_digits (d ∷ ds) = zero_first (nat_le d 48) d ds refl (zero_digits ds)

-- the shapes behind signs

abbrev pub before_then : grammar.Sign → Bool → Option ModuleShape
before_then grammar.plus true = Some (Wanted false)
before_then grammar.minus true = Some (Wanted false)
before_then _ signed = None

abbrev pub behind_then : grammar.Sign → Option ModuleShape
behind_then grammar.times = Some (Multiplying (shape 0 (FactorWanted false)))
behind_then grammar.plus = Some (Wanted false)
behind_then grammar.minus = Some (Wanted false)
behind_then _ = None

abbrev pub number_then : grammar.Sign → Bool → Option ModuleShape
number_then grammar.times is_zero = Some Scaling
number_then grammar.plus true = Some (Wanted false)
number_then grammar.minus true = Some (Wanted false)
number_then _ is_zero = None

-- the shape behind a token, outside of factors
abbrev pub module_then : ModuleShape → Token → Option ModuleShape
module_then (Wanted signed) (name x) = Some Standing
module_then (Wanted signed) (number digits) = Some (Number (nat_eq (number_value digits) 0))
module_then (Wanted signed) (symbol b) = before_then (first_sign b signs) signed
module_then (Number is_zero) (name x) = None
module_then (Number is_zero) (number digits) = None
module_then (Number is_zero) (symbol b) = number_then (first_sign b signs) is_zero
module_then Scaling (name x) = Some Standing
module_then Scaling (number digits) = None
module_then Scaling (symbol b) = None
module_then Standing (name x) = None
module_then Standing (number digits) = None
module_then Standing (symbol b) = behind_then (first_sign b signs)
module_then (Multiplying shape) t = None

before_steps : (sign : grammar.Sign) (signed : Bool) → module_shape_of (before_term sign signed) ≡ before_then sign signed
unfolding before_term
before_steps grammar.plus true = refl
before_steps grammar.plus false = refl
before_steps grammar.minus true = refl
before_steps grammar.minus false = refl
before_steps grammar.times signed = refl
before_steps grammar.raise signed = refl
before_steps grammar.open_ signed = refl
before_steps grammar.close_ signed = refl
before_steps grammar.other signed = refl

behind_steps : (sign : grammar.Sign) (joins : ModuleExpression → ModuleExpression) (m : ModuleExpression) → module_shape_of (behind_term sign joins m) ≡ behind_then sign
unfolding behind_term
behind_steps grammar.plus joins m = refl
behind_steps grammar.minus joins m = refl
behind_steps grammar.times joins m = refl
behind_steps grammar.raise joins m = refl
behind_steps grammar.open_ joins m = refl
behind_steps grammar.close_ joins m = refl
behind_steps grammar.other joins m = refl

number_steps : (sign : grammar.Sign) (joins : ModuleExpression → ModuleExpression) (n : ℕ) → module_shape_of (behind_number sign joins n) ≡ number_then sign (nat_eq n 0)
unfolding behind_number behind_term
number_steps grammar.plus joins n = elim (nat_eq n 0) as (λ b. module_shape_of (cond b (behind_term grammar.plus joins nothing) module_stuck) ≡ number_then grammar.plus b) [ true ↦ refl | false ↦ refl ]
number_steps grammar.minus joins n = elim (nat_eq n 0) as (λ b. module_shape_of (cond b (behind_term grammar.minus joins nothing) module_stuck) ≡ number_then grammar.minus b) [ true ↦ refl | false ↦ refl ]
number_steps grammar.times joins n = refl
number_steps grammar.raise joins n = refl
number_steps grammar.open_ joins n = refl
number_steps grammar.close_ joins n = refl
number_steps grammar.other joins n = refl

-- outside of factors
abbrev pub IsOutside : ModuleShape → Type 0
IsOutside (Multiplying shape) = ⊥
IsOutside _ = Unit {0}

not_in_factor : (o : Option Shape) (s : ModuleShape) → IsOutside s → factor_shape o ≡ Some s → ⊥
not_in_factor None s out h = (cc)
not_in_factor (Some inner) s out h = let same : Multiplying inner ≡ s = (cc) in subst IsOutside (sym same) out

pub steps_outside : (s : ModuleShape) (t : Token) → IsOutside s → StepsTo s t (module_then s t)
unfolding module_read
steps_outside s t out module_stuck h = absurd (cc)
steps_outside s t out (module_reading joins (term_wanted signed)) h = subst (λ (s : ModuleShape). module_shape_of (module_read (module_reading joins (term_wanted signed)) t) ≡ module_then s t) (let same : Wanted signed ≡ s = (cc) in same) (by_token t)
  where
    by_token : (t : Token) → module_shape_of (module_read (module_reading joins (term_wanted signed)) t) ≡ module_then (Wanted signed) t
    by_token (name x) = refl
    by_token (number digits) = refl
    by_token (symbol b) = before_steps (first_sign b signs) signed
steps_outside s t out (module_reading joins (numbered n)) h = subst (λ (s : ModuleShape). module_shape_of (module_read (module_reading joins (numbered n)) t) ≡ module_then s t) (let same : Number (nat_eq n 0) ≡ s = (cc) in same) (by_token t)
  where
    by_token : (t : Token) → module_shape_of (module_read (module_reading joins (numbered n)) t) ≡ module_then (Number (nat_eq n 0)) t
    by_token (name x) = refl
    by_token (number digits) = refl
    by_token (symbol b) = number_steps (first_sign b signs) joins n
steps_outside s t out (module_reading joins (scaling n)) h = subst (λ (s : ModuleShape). module_shape_of (module_read (module_reading joins (scaling n)) t) ≡ module_then s t) (let same : Scaling ≡ s = (cc) in same) (by_token t)
  where
    by_token : (t : Token) → module_shape_of (module_read (module_reading joins (scaling n)) t) ≡ module_then Scaling t
    by_token (name x) = refl
    by_token (number digits) = refl
    by_token (symbol b) = refl
steps_outside s t out (module_reading joins (term_stands m)) h = subst (λ (s : ModuleShape). module_shape_of (module_read (module_reading joins (term_stands m)) t) ≡ module_then s t) (let same : Standing ≡ s = (cc) in same) (by_token t)
  where
    by_token : (t : Token) → module_shape_of (module_read (module_reading joins (term_stands m)) t) ≡ module_then Standing t
    by_token (name x) = refl
    by_token (number digits) = refl
    by_token (symbol b) = behind_steps (first_sign b signs) joins m
steps_outside s t out (module_reading joins (multiplying m r)) h = absurd (not_in_factor (shape_of r) s out h)

-- signs that lead to one shape

pub first_term : (sign : Sign) → (sign ≡ Plus) ⊎ (sign ≡ Minus) → before_then (read_as sign) true ≡ Some (Wanted false)
first_term sign (inl is) = rw is refl
first_term sign (inr is) = rw is refl

pub no_first_term : (sign : Sign) → (sign ≡ Plus) ⊎ (sign ≡ Minus) → before_then (read_as sign) false ≡ None
no_first_term sign (inl is) = rw is refl
no_first_term sign (inr is) = rw is refl

pub next_term : (sign : Sign) → (sign ≡ Plus) ⊎ (sign ≡ Minus) → behind_then (read_as sign) ≡ Some (Wanted false)
next_term sign (inl is) = rw is refl
next_term sign (inr is) = rw is refl

pub term_of_zero : (sign : Sign) → (sign ≡ Plus) ⊎ (sign ≡ Minus) → number_then (read_as sign) true ≡ Some (Wanted false)
term_of_zero sign (inl is) = rw is refl
term_of_zero sign (inr is) = rw is refl

pub no_term : (sign : Sign) → (sign ≡ Plus) ⊎ (sign ≡ Minus) → number_then (read_as sign) false ≡ None
no_term sign (inl is) = rw is refl
no_term sign (inr is) = rw is refl

pub never_before : (sign : Sign) (signed : Bool) → (sign ≡ Times) ⊎ ((sign ≡ Power) ⊎ ((sign ≡ Open) ⊎ ((sign ≡ Close) ⊎ (sign ≡ Other)))) → before_then (read_as sign) signed ≡ None
never_before sign signed (inl is) = rw is refl
never_before sign signed (inr (inl is)) = rw is refl
never_before sign signed (inr (inr (inl is))) = rw is refl
never_before sign signed (inr (inr (inr (inl is)))) = rw is refl
never_before sign signed (inr (inr (inr (inr is)))) = rw is refl

pub never_behind : (sign : Sign) → (sign ≡ Power) ⊎ ((sign ≡ Open) ⊎ ((sign ≡ Close) ⊎ (sign ≡ Other))) → behind_then (read_as sign) ≡ None
never_behind sign (inl is) = rw is refl
never_behind sign (inr (inl is)) = rw is refl
never_behind sign (inr (inr (inl is))) = rw is refl
never_behind sign (inr (inr (inr is))) = rw is refl

pub never_numbered : (sign : Sign) (is_zero : Bool) → (sign ≡ Power) ⊎ ((sign ≡ Open) ⊎ ((sign ≡ Close) ⊎ (sign ≡ Other))) → number_then (read_as sign) is_zero ≡ None
never_numbered sign is_zero (inl is) = rw is refl
never_numbered sign is_zero (inr (inl is)) = rw is refl
never_numbered sign is_zero (inr (inr (inl is))) = rw is refl
never_numbered sign is_zero (inr (inr (inr is))) = rw is refl

-- within factors

within_factor : (o : Option Shape) (shape : Shape) → factor_shape o ≡ Some (Multiplying shape) → o ≡ Some shape
within_factor None shape h = absurd (cc)
within_factor (Some inner) shape h = (cc)

in_factor_steps : (joins : ModuleExpression → ModuleExpression) (m : ModuleExpression) (r : Reader) → module_shape_of (in_factor joins m r) ≡ factor_shape (shape_of r)
unfolding in_factor
in_factor_steps joins m stuck = refl
in_factor_steps joins m (reading stack frame state) = refl

ended : (next : Option ModuleShape) (joins : ModuleExpression → ModuleExpression) (m : ModuleExpression) (r : Reader) (o : Option Expression) (t : Token) → is_some o ≡ true → ends_factor t ≡ true
    → StepsTo Standing t next → module_shape_of (behind_factor joins m r o t) ≡ next
unfolding behind_factor module_read
ended next joins m r None t some end steps = absurd (cc)
ended next joins m r (Some e) (name x) some end steps = absurd (cc)
ended next joins m r (Some e) (number digits) some end steps = absurd (cc)
ended next joins m r (Some e) (symbol b) some end steps = rw end (steps (module_reading joins (term_stands (product m e))) refl)

went_on : (joins : ModuleExpression → ModuleExpression) (m : ModuleExpression) (r : Reader) (o : Option Expression) (t : Token) → (is_some o && ends_factor t) ≡ false
    → module_shape_of (behind_factor joins m r o t) ≡ module_shape_of (in_factor joins m (read r t))
unfolding behind_factor
went_on joins m r None t is = refl
went_on joins m r (Some e) (name x) is = refl
went_on joins m r (Some e) (number digits) is = refl
went_on joins m r (Some e) (symbol b) is = rw is refl

-- a factor that ends
pub factor_ends : (shape : Shape) (t : Token) (whole : Bool) (next : Option ModuleShape) → ((r : Reader) → shape_of r ≡ Some shape → whole ≡ is_some (expression_read r)) → whole ≡ true
    → ends_factor t ≡ true → StepsTo Standing t next → StepsTo (Multiplying shape) t next
unfolding module_read
factor_ends shape t whole next ends is end steps module_stuck h = absurd (cc)
factor_ends shape t whole next ends is end steps (module_reading joins (term_wanted signed)) h = absurd (cc)
factor_ends shape t whole next ends is end steps (module_reading joins (numbered n)) h = absurd (cc)
factor_ends shape t whole next ends is end steps (module_reading joins (scaling n)) h = absurd (cc)
factor_ends shape t whole next ends is end steps (module_reading joins (term_stands m)) h = absurd (cc)
factor_ends shape t whole next ends is end steps (module_reading joins (multiplying m r)) h =
    ended next joins m r (expression_read r) t (sym (ends r (within_factor (shape_of r) shape h)) ∙ is) end steps

-- a factor that goes on
pub factor_goes_on : (shape : Shape) (t : Token) (whole : Bool) (next : Option Shape) → ((r : Reader) → shape_of r ≡ Some shape → whole ≡ is_some (expression_read r))
    → (whole && ends_factor t) ≡ false → ((r : Reader) → shape_of r ≡ Some shape → shape_of (read r t) ≡ next) → StepsTo (Multiplying shape) t (factor_shape next)
unfolding module_read
factor_goes_on shape t whole next ends is steps module_stuck h = absurd (cc)
factor_goes_on shape t whole next ends is steps (module_reading joins (term_wanted signed)) h = absurd (cc)
factor_goes_on shape t whole next ends is steps (module_reading joins (numbered n)) h = absurd (cc)
factor_goes_on shape t whole next ends is steps (module_reading joins (scaling n)) h = absurd (cc)
factor_goes_on shape t whole next ends is steps (module_reading joins (term_stands m)) h = absurd (cc)
factor_goes_on shape t whole next ends is steps (module_reading joins (multiplying m r)) h =
    let inner = within_factor (shape_of r) shape h in
    went_on joins m r (expression_read r) t (ap (λ b. b && ends_factor t) (sym (ends r inner)) ∙ is) ∙ in_factor_steps joins m (read r t) ∙ ap factor_shape (steps r inner)

-- whole expressions

whole_factor : (joins : ModuleExpression → ModuleExpression) (m : ModuleExpression) (o : Option Expression) → is_some (multiplied_whole joins m o) ≡ is_some o
whole_factor joins m None = refl
whole_factor joins m (Some e) = refl

zero_whole : (joins : ModuleExpression → ModuleExpression) (b : Bool) → is_some (cond b (Some (joins nothing)) None) ≡ b
zero_whole joins true = refl
zero_whole joins false = refl

abbrev pub whole_at : ModuleShape → Bool
whole_at (Wanted signed) = false
whole_at (Number is_zero) = is_zero
whole_at Scaling = false
whole_at Standing = true
whole_at (Multiplying shape) = false

pub whole_outside : (s : ModuleShape) → IsOutside s → (r : ModuleReader) → module_shape_of r ≡ Some s → whole_at s ≡ is_some (module_expression_read r)
unfolding module_expression_read
whole_outside s out module_stuck h = absurd (cc)
whole_outside s out (module_reading joins (term_wanted signed)) h = let same : Wanted signed ≡ s = (cc) in ap whole_at (sym same)
whole_outside s out (module_reading joins (numbered n)) h = let same : Number (nat_eq n 0) ≡ s = (cc) in ap whole_at (sym same) ∙ sym (zero_whole joins (nat_eq n 0))
whole_outside s out (module_reading joins (scaling n)) h = let same : Scaling ≡ s = (cc) in ap whole_at (sym same)
whole_outside s out (module_reading joins (term_stands m)) h = let same : Standing ≡ s = (cc) in ap whole_at (sym same)
whole_outside s out (module_reading joins (multiplying m r)) h = absurd (not_in_factor (shape_of r) s out h)

pub whole_within : (shape : Shape) (whole : Bool) → ((r : Reader) → shape_of r ≡ Some shape → whole ≡ is_some (expression_read r))
    → (r : ModuleReader) → module_shape_of r ≡ Some (Multiplying shape) → whole ≡ is_some (module_expression_read r)
unfolding module_expression_read
whole_within shape whole is module_stuck h = absurd (cc)
whole_within shape whole is (module_reading joins (term_wanted signed)) h = absurd (cc)
whole_within shape whole is (module_reading joins (numbered n)) h = absurd (cc)
whole_within shape whole is (module_reading joins (scaling n)) h = absurd (cc)
whole_within shape whole is (module_reading joins (term_stands m)) h = absurd (cc)
whole_within shape whole is (module_reading joins (multiplying m r)) h = is r (within_factor (shape_of r) shape h) ∙ sym (whole_factor joins m (expression_read r))

-- the front of tokens is read, and this is its shape
pub record IsModuleBefore (s : ModuleShape) (all rest : List Token) : Type 0 where
  pub reader : ModuleReader
  pub has_shape : module_shape_of reader ≡ Some s
  pub goes_on : module_read_all module_start all ≡ module_read_all reader rest

pub module_begins : (all : List Token) → IsModuleBefore (Wanted true) all all
module_begins all = record { reader = module_start; has_shape = refl; goes_on = refl }

pub module_goes_further : (s next : ModuleShape) (all : List Token) (t : Token) (rest : List Token) → IsModuleBefore s all (t ∷ rest) → StepsTo s t (Some next) → IsModuleBefore next all rest
unfolding module_read_all
module_goes_further s next all t rest h step = record { reader = module_read h.reader t; has_shape = step h.reader h.has_shape; goes_on = h.goes_on }

pub module_read_all-stuck : (tokens : List Token) → module_read_all module_stuck tokens ≡ module_stuck
unfolding module_read_all module_read
module_read_all-stuck [] = refl
module_read_all-stuck (t ∷ tokens) = module_read_all-stuck tokens

stuck_factor : (joins : ModuleExpression → ModuleExpression) (m : ModuleExpression) (rest : List Token) → module_expression_read (module_read_all (module_reading joins (multiplying m stuck)) rest) ≡ None
unfolding module_read_all module_read module_expression_read behind_factor in_factor expression_read read
stuck_factor joins m [] = refl
stuck_factor joins m (t ∷ rest) = ap module_expression_read (module_read_all-stuck rest)

no_factor_shape : (o : Option Shape) → factor_shape o ≡ None → o ≡ None
no_factor_shape None h = refl
no_factor_shape (Some shape) h = absurd (cc)

module_fails_at : (r : ModuleReader) (rest : List Token) → module_shape_of r ≡ None → module_expression_read (module_read_all r rest) ≡ None
unfolding module_expression_read
module_fails_at module_stuck rest h = ap module_expression_read (module_read_all-stuck rest)
module_fails_at (module_reading joins (term_wanted signed)) rest h = absurd (cc)
module_fails_at (module_reading joins (numbered n)) rest h = absurd (cc)
module_fails_at (module_reading joins (scaling n)) rest h = absurd (cc)
module_fails_at (module_reading joins (term_stands m)) rest h = absurd (cc)
module_fails_at (module_reading joins (multiplying m r)) rest h =
    let none : r ≡ stuck = is_stuck r (no_factor_shape (shape_of r) h) in
    ap (λ (r : Reader). module_expression_read (module_read_all (module_reading joins (multiplying m r)) rest)) none ∙ stuck_factor joins m rest

pub module_fails : (s : ModuleShape) (all : List Token) (t : Token) (rest : List Token) → IsModuleBefore s all (t ∷ rest) → StepsTo s t None → module_parsed all ≡ None
unfolding module_read_all module_parsed
module_fails s all t rest h step = ap module_expression_read h.goes_on ∙ module_fails_at (module_read h.reader t) rest (step h.reader h.has_shape)

pub module_ends : (s : ModuleShape) (all : List Token) → IsModuleBefore s all [] → (b : Bool) → ((r : ModuleReader) → module_shape_of r ≡ Some s → b ≡ is_some (module_expression_read r))
    → b ≡ is_some (module_parsed all)
unfolding module_read_all module_parsed
module_ends s all h b whole = rw (h.goes_on) (whole h.reader h.has_shape)
