-- Turnstiles, passes and turns as contracts see them. A turnstile is its id.
pub use Rattle.atomic_table.specs.Seated.{TableId as TurnstileId}

-- `turnstile` says to which turnstile the pass belongs
pub record PassView (K : Type 0) : Type 0 where
  pub turnstile : TurnstileId
  pub knows : K

-- the pass that entered, the value that the turn met, and the value as it is now
pub record TurnView (T K : Type 0) : Type 0 where
  pub pass : PassView K
  pub met : T
  pub value : T
