-- A roll that seats sign.
use Rattle.std.specs.Prelude.{◌≡◌, ◌⊎◌, ℕ, Bool, true, false, List, [], ◌∷◌, ◌++◌, refl}
use Rattle.std.proofs.Common.{⊎_elim, append-nil, sym, ◌∙◌}
use Rattle.std.proofs.lemmas.List.Elements.{All-nil, All-cons}
use Rattle.ve_turn.specs.Views.{TurnstileId, PassView}
use Rattle.ve_turn.specs.declared.view.Knowledge.{Knowledge}
use Rattle.ve_turn.specs.Journal.{GoesOn}

-- the seat signs once, or not at all
abbrev pub Signs : ℕ → List ℕ → List ℕ → Type 0
Signs seat before after = (after ≡ before) ⊎ (after ≡ before ++ seat ∷ [])

pub signs_go_on : (seat : ℕ) (before after : List ℕ) → Signs seat before after → GoesOn {O = Unit {0}} {D = Unit {0}} (λ _. tt) (λ roll. roll) (λ entry. entry) (λ _ _. tt) seat before after
signs_go_on seat before after signs = ⊎_elim
    (λ same. record { same_opening = refl; added = []; longer = same ∙ sym (append-nil before); added_by_seat = All-nil (λ entry. entry ≡ seat); same_desks = λ _ _. refl })
    (λ more. record { same_opening = refl; added = seat ∷ []; longer = more; added_by_seat = All-cons (λ entry. entry ≡ seat) seat [] refl (All-nil (λ entry. entry ≡ seat)); same_desks = λ _ _. refl })
    signs

-- The pass is of this turnstile, stands for the same seats as before, and has these entries
pub record HasSigned {T O E D : Type 0} (turnstile : TurnstileId) (before : Knowledge T O E D) (own : List E) (pass : PassView (Knowledge T O E D)) : Type 0 where
  pub same_turnstile : pass.turnstile ≡ turnstile
  pub same_seats : pass.knows.seats ≡ before.seats
  pub same_left : pass.knows.left ≡ before.left
  pub same_seat : pass.knows.seat ≡ before.seat
  pub own_is : pass.knows.own ≡ own

-- the same, with one entry of its seat more
abbrev pub HasSignedOnce : {T O D : Type 0} → TurnstileId → Knowledge T O ℕ D → PassView (Knowledge T O ℕ D) → Type 0
HasSignedOnce turnstile before = HasSigned turnstile before (before.own ++ before.seat ∷ [])

-- how often seat 0 signs, as a list
abbrev pub zeros : Bool → List ℕ
zeros true = 0 ∷ 0 ∷ 0 ∷ []
zeros false = 0 ∷ []
