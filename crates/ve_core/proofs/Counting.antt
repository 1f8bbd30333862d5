-- Events that were counted.
use Rattle.std.proofs.Common.{◌≡◌, ℕ, ◌+◌, ◌<◌, List, [], ◌∷◌, ◌++◌, Bool, true, false, map, take, length, get_or, Result, Ok, Err, OnErr, refl, sym, ap, subst, ◌∙◌}
use Rattle.std.proofs.lemmas.List.{map-append, take_more}
use Rattle.ve_machine.specs.Machines.{Event, Goes, Machine, Move}
use Rattle.ve_machine.specs.Machines as machines
use Rattle.ve_core.specs.declared.event.Event.{Event as ProgramEvent}
use Rattle.ve_core.specs.Events.{event_of}
use Rattle.ve_core.specs.Moving.{Counts, Steps, further, nowhere, passed_over}

-- what was counted was gone through
pub counted_go : (M : Machine) (events : List Event) (count : ℕ) (N : Machine) → Counts M events count N → Goes M events N
counted_go M events count N nowhere = machines.nowhere
counted_go M events count N (further earlier event before K L counted move) = machines.further earlier event K L (counted_go M earlier before K counted) move
counted_go M events count N (passed_over earlier event before K counted disabled) = machines.passed_over earlier event K (counted_go M earlier before K counted) disabled

-- one more event
pub counts_on : (M : Machine) (events : List Event) (event : Event) (count : ℕ) (N K : Machine) → Counts M events count N → Steps N event true K → Counts M (events ++ event ∷ []) (count + 1) K
counts_on M events event count N K counted steps = further events event count N K counted (steps.moves refl)

pub counts_as_much : (M : Machine) (events : List Event) (event : Event) (count : ℕ) (N K : Machine) → Counts M events count N → Steps N event false K → Counts M (events ++ event ∷ []) count K
counts_as_much M events event count N K counted steps = subst (Counts M (events ++ event ∷ []) count) (sym (steps.stays refl)) (passed_over events event count N counted (steps.disabled refl))

pub counts_next : (M : Machine) (events : List ProgramEvent) (i : ℕ) (d : ProgramEvent) (count : ℕ) (N K : Machine) (moved : Bool) → i < length events → Counts M (map event_of (take i events)) count N
    → Steps N (event_of (get_or events i d)) moved K
    → (moved ≡ true → Counts M (map event_of (take (i + 1) events)) (count + 1) K) × (moved ≡ false → Counts M (map event_of (take (i + 1) events)) count K)
counts_next M events i d count N K moved less counted steps = (
  λ yes. subst (λ list. Counts M list (count + 1) K) (sym grown) (counts_on M (map event_of (take i events)) (event_of (get_or events i d)) count N K counted (subst (λ b. Steps N (event_of (get_or events i d)) b K) yes steps)),
  λ no. subst (λ list. Counts M list count K) (sym grown) (counts_as_much M (map event_of (take i events)) (event_of (get_or events i d)) count N K counted (subst (λ b. Steps N (event_of (get_or events i d)) b K) no steps)),
)
  where
    grown : map event_of (take (i + 1) events) ≡ map event_of (take i events) ++ event_of (get_or events i d) ∷ []
    grown = ap (map event_of) (take_more events i d less) ∙ map-append event_of (take i events) (get_or events i d ∷ [])

-- what holds, holds on an error
pub on_err : {A E : Type 0} (P : Type 0) (r : Result A E) → P → OnErr r P
on_err P (Ok a) holds = tt
on_err P (Err e) holds = holds
