use Rattle.std.proofs.Common.{◌≡◌, ◌∙◌, sym, ap, arith, inl, inr, ◌⊎◌, Bool, false}
use Rattle.ve_value.specs.declared.shape.Place.{Place}
use Rattle.ve_value.specs.declared.shape.Place.TheVariants.{Wanted, Raising, Inverting}
use Rattle.ve_value.proofs.ShapeSteps.{within, outside, stands_at}
use Rattle.ve_value.proofs.shape.Shape.is_whole.Goals as goal

stands_nowhere : (place : Place) → ((signed : Bool) × (place ≡ Wanted signed)) ⊎ ((place ≡ Raising) ⊎ (place ≡ Inverting)) → stands_at place ≡ false
stands_nowhere place (inl (signed, is)) = ap stands_at is
stands_nowhere place (inr (inl is)) = ap stands_at is
stands_nowhere place (inr (inr is)) = ap stands_at is

pub returns-then-self-gt0 : goal.returns-then-self-gt0
returns-then-self-gt0 c = λ r h. sym (within r _ h (omega arith))

pub returns-in-Standing : goal.returns-in-Standing
returns-in-Standing c = λ r h. sym (outside r _ h (omega arith) ∙ ap stands_at c.in-Standing.is)

pub returns-in-Wanted : goal.returns-in-Wanted
returns-in-Wanted c = λ r h. sym (outside r _ h (omega arith) ∙ stands_nowhere _ c.in-Wanted.is)
