-- Symbols, as the signs that expressions are read by.
use Rattle.std.specs.Prelude.{◌≡◌, ℕ}
use Rattle.ve_formats.specs.Reading as grammar
use Rattle.ve_formats.specs.Reading.{first_sign, signs}
use Rattle.ve_value.specs.declared.sign.Sign.{Sign}
use Rattle.ve_value.specs.declared.sign.Sign.TheVariants.{Plus, Minus, Times, Power, Open, Close, Other}

abbrev pub read_as : Sign → grammar.Sign
read_as Plus = grammar.plus
read_as Minus = grammar.minus
read_as Times = grammar.times
read_as Power = grammar.raise
read_as Open = grammar.open_
read_as Close = grammar.close_
read_as Other = grammar.other

-- the byte is this sign
abbrev pub IsSignOf : ℕ → Sign → Type 0
IsSignOf byte sign = first_sign byte signs ≡ read_as sign
