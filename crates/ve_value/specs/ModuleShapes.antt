-- What matters of the front of an expression of the module for whether it can go on.
use Rattle.std.specs.Prelude.{◌≡◌, ℕ, Bool, false, nat_eq, Option, Some, None}
use Rattle.ve_formats.specs.Tokens.{Token, name, number, symbol}
use Rattle.ve_formats.specs.Reading.{first_sign, signs}
use Rattle.ve_formats.specs.ModuleReading as grammar
use Rattle.ve_formats.specs.ModuleReading.{ModuleReader, module_stuck, module_reading, term_wanted, numbered, scaling, term_stands, multiplying, module_read}
use Rattle.ve_value.specs.declared.shape.Shape.{Shape}
use Rattle.ve_value.specs.declared.module_shape.ModuleShape.{ModuleShape}
use Rattle.ve_value.specs.declared.module_shape.ModuleShape.TheVariants.{Wanted, Number, Scaling, Standing, Multiplying}
use Rattle.ve_value.specs.Shapes.{shape_of}

-- within a factor
abbrev pub factor_shape : Option Shape → Option ModuleShape
factor_shape (Some shape) = Some (Multiplying shape)
factor_shape None = None

-- the reader has this shape; none where it is stuck
abbrev pub module_shape_of : ModuleReader → Option ModuleShape
module_shape_of module_stuck = None
module_shape_of (module_reading joins (term_wanted signed)) = Some (Wanted signed)
module_shape_of (module_reading joins (numbered n)) = Some (Number (nat_eq n 0))
module_shape_of (module_reading joins (scaling n)) = Some Scaling
module_shape_of (module_reading joins (term_stands m)) = Some Standing
module_shape_of (module_reading joins (multiplying m r)) = factor_shape (shape_of r)

-- each reader of a shape has another one behind a token
abbrev pub StepsTo : ModuleShape → Token → Option ModuleShape → Type 0
StepsTo shape t next = (r : ModuleReader) → module_shape_of r ≡ Some shape → module_shape_of (module_read r t) ≡ next

-- how many parentheses are open
abbrev pub depth_of : ModuleShape → ℕ
depth_of (Multiplying shape) = shape.depth
depth_of _ = 0

-- a token that ends a factor which stands outside of parentheses
abbrev pub ends_factor : Token → Bool
ends_factor (name x) = false
ends_factor (number digits) = false
ends_factor (symbol b) = grammar.is_joining (first_sign b signs)
