-- How tokens are read as an expression of the module, one after another. Each factor is read by a reader of the algebra, without parentheses around it.
use Rattle.std.specs.Prelude.{ℕ, Bool, true, false, cond, nat_eq, List, [], ◌∷◌, Option, Some, None}
use Rattle.ve_formats.specs.Tokens.{Token, name, number, symbol, number_value}
use Rattle.ve_formats.specs.Expressions.{Expression}
use Rattle.ve_formats.specs.ModuleExpressions.{ModuleExpression, nothing, generator, product, opposite, sum, difference}
use Rattle.ve_formats.specs.Reading.{Reader, stuck, reading, blank, wanted, Sign, plus, minus, times, first_sign, signs, read, expression_read}

pub data ModuleReading : Type 0 where
  -- a term is wanted, and a sign may stand before it or not
  term_wanted : Bool → ModuleReading
  -- a number, which is a term by itself where it is 0
  numbered : ℕ → ModuleReading
  -- a number and the sign of a product
  scaling : ℕ → ModuleReading
  -- a generator with its factors
  term_stands : ModuleExpression → ModuleReading
  -- the same, and what was read of one more factor
  multiplying : ModuleExpression → Reader → ModuleReading

-- what the next term of a sum is joined to, and what was read of that term
pub data ModuleReader : Type 0 where
  module_stuck : ModuleReader
  module_reading : (ModuleExpression → ModuleExpression) → ModuleReading → ModuleReader

-- before an expression, and before a factor
abbrev pub module_start : ModuleReader
module_start = module_reading (λ m. m) (term_wanted true)

abbrev pub factor_start : Reader
factor_start = reading [] blank (wanted false)

-- one more factor is read, unless its reader is stuck
unfoldable pub in_factor : (ModuleExpression → ModuleExpression) → ModuleExpression → Reader → ModuleReader
in_factor joins m stuck = module_stuck
in_factor joins m (reading stack frame state) = module_reading joins (multiplying m (reading stack frame state))

-- what a sign does to a reader

unfoldable pub before_term : Sign → Bool → ModuleReader
before_term plus true = module_reading (λ m. m) (term_wanted false)
before_term minus true = module_reading opposite (term_wanted false)
before_term _ first = module_stuck

unfoldable pub behind_term : Sign → (ModuleExpression → ModuleExpression) → ModuleExpression → ModuleReader
behind_term times joins m = module_reading joins (multiplying m factor_start)
behind_term plus joins m = module_reading (λ n. sum (joins m) n) (term_wanted false)
behind_term minus joins m = module_reading (λ n. difference (joins m) n) (term_wanted false)
behind_term _ joins m = module_stuck

unfoldable pub behind_number : Sign → (ModuleExpression → ModuleExpression) → ℕ → ModuleReader
behind_number times joins n = module_reading joins (scaling n)
behind_number plus joins n = cond (nat_eq n 0) (behind_term plus joins nothing) module_stuck
behind_number minus joins n = cond (nat_eq n 0) (behind_term minus joins nothing) module_stuck
behind_number _ joins n = module_stuck

-- what ends a factor that stands outside of parentheses
abbrev pub is_joining : Sign → Bool
is_joining plus = true
is_joining minus = true
is_joining times = true
is_joining _ = false

-- a token within a factor, or behind it
unfoldable pub behind_factor : (ModuleExpression → ModuleExpression) → ModuleExpression → Reader → Option Expression → Token → ModuleReader
behind_factor joins m r (Some e) (symbol b) = cond (is_joining (first_sign b signs)) (behind_term (first_sign b signs) joins (product m e)) (in_factor joins m (read r (symbol b)))
behind_factor joins m r (Some e) (name x) = in_factor joins m (read r (name x))
behind_factor joins m r (Some e) (number digits) = in_factor joins m (read r (number digits))
behind_factor joins m r None t = in_factor joins m (read r t)

unfoldable pub module_read : ModuleReader → Token → ModuleReader
module_read module_stuck t = module_stuck
module_read (module_reading joins (term_wanted first)) (name x) = module_reading joins (term_stands (generator None x))
module_read (module_reading joins (term_wanted first)) (number digits) = module_reading joins (numbered (number_value digits))
module_read (module_reading joins (term_wanted first)) (symbol b) = before_term (first_sign b signs) first
module_read (module_reading joins (numbered n)) (name x) = module_stuck
module_read (module_reading joins (numbered n)) (number digits) = module_stuck
module_read (module_reading joins (numbered n)) (symbol b) = behind_number (first_sign b signs) joins n
module_read (module_reading joins (scaling n)) (name x) = module_reading joins (term_stands (generator (Some n) x))
module_read (module_reading joins (scaling n)) (number digits) = module_stuck
module_read (module_reading joins (scaling n)) (symbol b) = module_stuck
module_read (module_reading joins (term_stands m)) (name x) = module_stuck
module_read (module_reading joins (term_stands m)) (number digits) = module_stuck
module_read (module_reading joins (term_stands m)) (symbol b) = behind_term (first_sign b signs) joins m
module_read (module_reading joins (multiplying m r)) t = behind_factor joins m r (expression_read r) t

unfoldable pub module_read_all : ModuleReader → List Token → ModuleReader
module_read_all r [] = r
module_read_all r (t ∷ ts) = module_read_all (module_read r t) ts

-- a term with its last factor
abbrev pub multiplied_whole : (ModuleExpression → ModuleExpression) → ModuleExpression → Option Expression → Option ModuleExpression
multiplied_whole joins m (Some e) = Some (joins (product m e))
multiplied_whole joins m None = None

-- what was read in the end
unfoldable pub module_expression_read : ModuleReader → Option ModuleExpression
module_expression_read module_stuck = None
module_expression_read (module_reading joins (term_wanted first)) = None
module_expression_read (module_reading joins (numbered n)) = cond (nat_eq n 0) (Some (joins nothing)) None
module_expression_read (module_reading joins (scaling n)) = None
module_expression_read (module_reading joins (term_stands m)) = Some (joins m)
module_expression_read (module_reading joins (multiplying m r)) = multiplied_whole joins m (expression_read r)

unfoldable pub module_parsed : List Token → Option ModuleExpression
module_parsed tokens = module_expression_read (module_read_all module_start tokens)
