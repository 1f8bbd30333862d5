-- Why a text is refused.
use Rattle.std.specs.Prelude.{ℕ}
use Rattle.ve_formats.specs.Tokens.{Fault}

-- a limit that is passed, with the count where one is told
pub data Limit : Type 0 where
  letters : Limit
  generators : Limit
  relations : Limit
  terms : ℕ → Limit
  length : ℕ → Limit
  cells : ℕ → Limit

pub data Cause : Type 0 where
  lexical : Fault → Cause
  too_deep : Cause
  wrong_line : Cause
  bad_prime : Cause
  name_taken : Cause
  bad_weight : Cause
  unknown_name : Cause
  exponent_too_large : Cause
  no_inverse : Cause
  beyond : Limit → Cause
  missing_end : Cause
  after_end : Cause
