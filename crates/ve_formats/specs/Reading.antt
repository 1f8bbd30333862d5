-- How tokens are read as an expression of the algebra, one after another, with a stack of open parentheses.
use Rattle.std.specs.Prelude.{ℕ, Bool, true, false, cond, nat_eq, List, [], ◌∷◌, Option, Some, None}
use Rattle.ve_formats.specs.Tokens.{Token, name, number, symbol, number_value}
use Rattle.ve_formats.specs.Expressions.{Expression, constant, letter, grouped, power, inverse_power, product, opposite, sum, difference}

-- what the next term of a sum is joined to, and the next factor of its last term
pub record Frame : Type 0 where
  pub joins : Expression → Expression
  pub times : Expression → Expression

pub data Reading : Type 0 where
  -- a factor is wanted, and a sign may stand before it or not
  wanted : Bool → Reading
  -- a factor was read, and may be raised or not
  stands : Bool → Expression → Reading
  raising : Expression → Reading
  inverting : Expression → Reading

pub data Reader : Type 0 where
  stuck : Reader
  reading : List Frame → Frame → Reading → Reader

-- only what joins the next term
abbrev pub joining : (Expression → Expression) → Frame
joining join = record { joins = join; times = λ e. e }

abbrev pub blank : Frame
blank = joining (λ e. e)

-- the sum, with its last factor
abbrev pub closed : Frame → Expression → Expression
closed frame e = frame.joins (frame.times e)

unfoldable pub close : List Frame → Expression → Reader
close [] e = stuck
close (frame ∷ stack) e = reading stack frame (stands true (grouped e))

-- the signs of expressions

pub data Sign : Type 0 where
  plus : Sign
  minus : Sign
  times : Sign
  raise : Sign
  open_ : Sign
  close_ : Sign
  other : Sign

abbrev pub sign_byte : Sign → ℕ
sign_byte plus = 43
sign_byte minus = 45
sign_byte times = 42
sign_byte raise = 94
sign_byte open_ = 40
sign_byte close_ = 41
sign_byte other = 0

abbrev pub first_sign : ℕ → List Sign → Sign
first_sign b [] = other
first_sign b (s ∷ signs) = cond (nat_eq b (sign_byte s)) s (first_sign b signs)

abbrev pub signs : List Sign
signs = plus ∷ minus ∷ times ∷ raise ∷ open_ ∷ close_ ∷ []

-- what a sign does to a reader

unfoldable pub at_wanted : Sign → List Frame → Frame → Bool → Reader
at_wanted open_ stack frame first = reading (frame ∷ stack) blank (wanted true)
at_wanted plus stack frame true = reading stack blank (wanted false)
at_wanted minus stack frame true = reading stack (joining opposite) (wanted false)
at_wanted _ stack frame first = stuck

unfoldable pub at_standing : Sign → List Frame → Frame → Expression → Bool → Reader
at_standing raise stack frame e true = reading stack frame (raising e)
at_standing times stack frame e raisable = reading stack (record { joins = frame.joins; times = λ f. product (frame.times e) f }) (wanted false)
at_standing plus stack frame e raisable = reading stack (joining (λ f. sum (closed frame e) f)) (wanted false)
at_standing minus stack frame e raisable = reading stack (joining (λ f. difference (closed frame e) f)) (wanted false)
at_standing close_ stack frame e raisable = close stack (closed frame e)
at_standing _ stack frame e raisable = stuck

unfoldable pub at_raising : Sign → List Frame → Frame → Expression → Reader
at_raising minus stack frame e = reading stack frame (inverting e)
at_raising _ stack frame e = stuck

unfoldable pub read : Reader → Token → Reader
read stuck t = stuck
read (reading stack frame (wanted first)) (name x) = reading stack frame (stands true (letter x))
read (reading stack frame (wanted first)) (number digits) = reading stack frame (stands true (constant (number_value digits)))
read (reading stack frame (wanted first)) (symbol b) = at_wanted (first_sign b signs) stack frame first
read (reading stack frame (stands raisable e)) (name x) = stuck
read (reading stack frame (stands raisable e)) (number digits) = stuck
read (reading stack frame (stands raisable e)) (symbol b) = at_standing (first_sign b signs) stack frame e raisable
read (reading stack frame (raising e)) (name x) = stuck
read (reading stack frame (raising e)) (number digits) = reading stack frame (stands false (power e (number_value digits)))
read (reading stack frame (raising e)) (symbol b) = at_raising (first_sign b signs) stack frame e
read (reading stack frame (inverting e)) (name x) = stuck
read (reading stack frame (inverting e)) (number digits) = reading stack frame (stands false (inverse_power e (number_value digits)))
read (reading stack frame (inverting e)) (symbol b) = stuck

unfoldable pub read_all : Reader → List Token → Reader
read_all r [] = r
read_all r (t ∷ ts) = read_all (read r t) ts

-- what was read in the end
unfoldable pub expression_read : Reader → Option Expression
expression_read stuck = None
expression_read (reading [] frame (wanted first)) = None
expression_read (reading [] frame (stands raisable e)) = Some (closed frame e)
expression_read (reading [] frame (raising e)) = None
expression_read (reading [] frame (inverting e)) = None
expression_read (reading (outer ∷ stack) frame state) = None

unfoldable pub parsed : List Token → Option Expression
parsed tokens = expression_read (read_all (reading [] blank (wanted true)) tokens)
