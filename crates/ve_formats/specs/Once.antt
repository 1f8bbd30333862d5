-- What there is exactly one of.
use Rattle.std.specs.Prelude.{◌≡◌}

-- exactly one thing has the property
pub record ExactlyOne {A : Type 0} (Q : A → Type 0) : Type 0 where
  pub it : A
  pub holds : Q it
  pub only : (other : A) → Q other → other ≡ it
