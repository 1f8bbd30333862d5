-- What a token tells of the pass or turn that it belongs to.
use Rattle.std.proofs.Common.{◌≡◌, ℕ, ◌-◌, List, [], ◌∷◌, sym, ap, ◌∙◌, Option, None}
use Rattle.ve_turn.specs.declared.view.Knowledge.{Knowledge}
use Rattle.ve_turn.specs.declared.view.View.{View}
use Rattle.ve_turn.specs.declared.view.View.TheVariants.{Outside, Inside}
use Rattle.ve_turn.specs.Views.{TurnView}
use Rattle.ve_turn.specs.Places.{Token, known_or, met_or, posed, IsOutside, IsInside}

module _ {T O E D : Type 0} where
  pub stands : (s : Token T O E D) (v : View T O E D) (carried : List (ℕ × Option T)) → s.me ≡ (v, carried) → s ≡ posed s v carried
  stands s v carried is = λ i. record s { me = is i }

  pub outside : (s : Token T O E D) (k : Knowledge T O E D) → IsOutside s k → s.me ≡ (Outside k, [])
  outside s k is = ap (λ (t : Token T O E D). t.me) is

  pub inside : (s : Token T O E D) (known : T × Knowledge T O E D) → IsInside s known → s.me ≡ (Inside known.0 known.1, (0, None) ∷ [])
  inside s known is = ap (λ (t : Token T O E D). t.me) is

  -- a token stands outside with one knowledge
  pub one_outside : (s : Token T O E D) (k l : Knowledge T O E D) → IsOutside s k → s.me ≡ (Outside l, []) → k ≡ l
  one_outside s k l is now = ap (λ (t : Token T O E D). known_or k t.me.0) (sym is) ∙ ap (λ m. known_or k m.0) now

  pub one_inside : (s : Token T O E D) (known : T × Knowledge T O E D) (met : T) (l : Knowledge T O E D) → IsInside s known → s.me ≡ (Inside met l, (0, None) ∷ []) → known ≡ (met, l)
  one_inside s known met l is now = ap (λ (t : Token T O E D). (met_or known.0 t.me.0, known_or known.1 t.me.0)) (sym is) ∙ ap (λ m. (met_or known.0 m.0, known_or known.1 m.0)) now

  -- so a ghost field that says where a token stands inside has one content
  pub same_inside : (s : Token T O E D) (x y : (known : T × Knowledge T O E D) × IsInside s known) → x.0 ≡ y.0
  same_inside s x y = ap (λ (t : Token T O E D). (met_or x.0.0 t.me.0, known_or x.0.1 t.me.0)) (sym x.1 ∙ y.1)

  -- a turn as contracts see it
  abbrev pub turn_view : Token T O E D → (T × Knowledge T O E D) → T → TurnView T (Knowledge T O E D)
  turn_view s known value = record { pass = record { turnstile = s.table_id; knows = known.1 }; met = known.0; value = value }

  pub lent_value : (s : Token T O E D) (x y : (known : T × Knowledge T O E D) × IsInside s known) (w : T) → turn_view s x.0 w ≡ turn_view s y.0 w
  lent_value s x y w = ap (λ known. turn_view s known w) (same_inside s x y)

  abbrev pub one_less : Knowledge T O E D → Knowledge T O E D
  one_less k = record k { left = k.left - 1 }
