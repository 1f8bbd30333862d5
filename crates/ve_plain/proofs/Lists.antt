-- A live id of a list of forwards dies.
use Rattle.std.proofs.Common.{◌≡◌, ℕ, zero, suc, ◌+◌, ◌<◌, ◌⊎◌, inl, inr, cond, Some, None, [], ◌∷◌, length, refl, ap, arith}
use Rattle.std.specs.Prelude.{Option, count_by}
use Rattle.std.specs.Option.{is_none}
use Rattle.std.proofs.Math.ListN.{set}
use Rattle.std.proofs.lemmas.List.Sums.{sum_by-cons}
use Rattle.std.proofs.lemmas.Option.{none-some}
use Rattle.ve_theory.specs.Answers.{Row}
use Rattle.ve_machine.specs.Forwards.{Forwards}
use Rattle.ve_machine.specs.Jobs.{HasForward, IsLiveIn}

-- its forward is there then
pub HasForward-new : (forwards : Forwards) (b : ℕ) (f : Row) → IsLiveIn forwards b → HasForward (set forwards b (Some f)) b f
HasForward-new [] b f live = absurd (none-some None live)
HasForward-new (g ∷ forwards) zero f live = refl
HasForward-new (g ∷ forwards) (suc b) f live = HasForward-new forwards b f live

-- dead ids keep their forwards
pub HasForward-kept : (forwards : Forwards) (b c : ℕ) (f g : Row) → IsLiveIn forwards b → HasForward forwards c g → HasForward (set forwards b (Some f)) c g
HasForward-kept [] b c f g live dead = absurd (none-some None live)
HasForward-kept (h ∷ forwards) zero zero f g live dead = absurd (let one : Some h ≡ Some None = live in let other : Some h ≡ Some (Some g) = dead in cc)
HasForward-kept (h ∷ forwards) zero (suc c) f g live dead = dead
HasForward-kept (h ∷ forwards) (suc b) zero f g live dead = dead
HasForward-kept (h ∷ forwards) (suc b) (suc c) f g live dead = HasForward-kept forwards b c f g live dead

-- and no other id dies
pub HasForward-before : (forwards : Forwards) (b c : ℕ) (f g : Row) → HasForward (set forwards b (Some f)) c g → (b ≡ c) ⊎ HasForward forwards c g
HasForward-before [] b c f g dead = inr dead
HasForward-before (h ∷ forwards) zero zero f g dead = inl refl
HasForward-before (h ∷ forwards) zero (suc c) f g dead = inr dead
HasForward-before (h ∷ forwards) (suc b) zero f g dead = inr dead
HasForward-before (h ∷ forwards) (suc b) (suc c) f g dead = elim (HasForward-before forwards b c f g dead) [ inl same ↦ inl (ap suc same) | inr there ↦ inr there ]

counted : (f : Option Row) (forwards : Forwards) → count_by is_none (f ∷ forwards) ≡ cond (is_none f) 1 0 + count_by is_none forwards
counted f forwards = sum_by-cons (λ (g : Option Row). cond (is_none g) 1 0) f forwards

-- one live id less
pub count_by-dead : (forwards : Forwards) (b : ℕ) (f : Row) → IsLiveIn forwards b → suc (count_by is_none (set forwards b (Some f))) ≡ count_by is_none forwards
count_by-dead [] b f live = absurd (none-some None live)
count_by-dead (None ∷ forwards) zero f live = omega (arith, counted None forwards, counted (Some f) forwards)
count_by-dead (Some g ∷ forwards) zero f live = absurd (let bad : Some (Some g) ≡ Some None = live in cc)
count_by-dead (g ∷ forwards) (suc b) f live = omega (arith, counted g forwards, counted g (set forwards b (Some f)), count_by-dead forwards b f live)

-- an id is live or dead
pub live_or_dead : (forwards : Forwards) (b : ℕ) → b < length forwards → IsLiveIn forwards b ⊎ ((f : Row) × HasForward forwards b f)
live_or_dead [] b within = absurd (omega arith)
live_or_dead (None ∷ forwards) zero within = inl refl
live_or_dead (Some f ∷ forwards) zero within = inr (f, refl)
live_or_dead (g ∷ forwards) (suc b) within = live_or_dead forwards b (omega arith)
