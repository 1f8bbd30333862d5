-- What is told of a text that is refused.
use Rattle.std.specs.Prelude.{◌≡◌, ℕ, List}
use Rattle.ve_formats.specs.Causes.{Cause}
use Rattle.ve_formats.specs.PresentationText.{IsRefusedAt}
use Rattle.ve_formats.specs.Messages.{refusal_message}

-- the text spells no presentation, and the message tells the line and the cause
pub record IsRefused (text message : List ℕ) : Type 0 where
  pub line : ℕ
  pub cause : Cause
  pub refused : IsRefusedAt text line cause
  pub told : message ≡ refusal_message line cause
