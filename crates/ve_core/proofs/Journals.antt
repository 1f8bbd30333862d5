-- The journal, as the forwards of the table tell it.
use Rattle.std.proofs.Common.{◌≡◌, ◌≢◌, ℕ, Some, None, List, [], ◌∷◌, ◌++◌, All, map, refl, ap, subst, ◌∙◌}
use Rattle.std.proofs.Math.ListN.{set}
use Rattle.std.specs.Prelude.{unwrap_or}
use Rattle.std.proofs.lemmas.List.{get_or-set_other, map-append}
use Rattle.ve_theory.specs.Combinations.{unit}
use Rattle.std.proofs.lemmas.List.Elements.{All-head, All-tail}
use Rattle.ve_theory.specs.Answers.{Row}
use Rattle.ve_machine.specs.Forwards.{Forwards, stand_in}
use Rattle.ve_machine.specs.Jobs.{HasForward, IsLiveIn}
use Rattle.ve_machine.specs.Seats.{Death}
use Rattle.ve_machine.proofs.Forwardings.{dead_stands}
use Rattle.ve_machine.proofs.KeptKnown.{live_not_dead}
use Rattle.ve_machine.proofs.SharedLists.{set_here}
use Rattle.ve_core.specs.declared.entry.Entry.{Entry}
use Rattle.ve_core.specs.Kept.{death_of}

-- what stands for another id stays
stands_else : (forwards : Forwards) (id b : ℕ) (f : Row) → b ≢ id → stand_in (set forwards id (Some f)) b ≡ stand_in forwards b
stands_else forwards id b f other = ap (λ o. unwrap_or o (unit b)) (get_or-set_other forwards id b (Some f) None other)

-- earlier deaths stay
deaths_kept : (forwards : Forwards) (id : ℕ) (f : Row) (entries : List Entry) → IsLiveIn forwards id → All (λ (d : Death). HasForward forwards d.id d.forward) (map (death_of forwards) entries)
    → map (death_of (set forwards id (Some f))) entries ≡ map (death_of forwards) entries
deaths_kept forwards id f [] live dead = refl
deaths_kept forwards id f (e ∷ entries) live dead =
    let first : HasForward forwards e.id (stand_in forwards e.id) = All-head (λ (d : Death). HasForward forwards d.id d.forward) (death_of forwards e) (map (death_of forwards) entries) dead in
    let other : e.id ≢ id = λ same. live_not_dead forwards id (stand_in forwards e.id) live (subst (λ b. HasForward forwards b (stand_in forwards e.id)) same first) in
    let here : death_of (set forwards id (Some f)) e ≡ death_of forwards e = λ i. record { seat = e.seat; id = e.id; forward = stands_else forwards id e.id f other i } in
    let rest = deaths_kept forwards id f entries live (All-tail (λ (d : Death). HasForward forwards d.id d.forward) (death_of forwards e) (map (death_of forwards) entries) dead) in
    λ i. here i ∷ rest i

-- and the last one has its forward
pub deaths_after : (forwards : Forwards) (id seat : ℕ) (f : Row) (entries : List Entry) → IsLiveIn forwards id → All (λ (d : Death). HasForward forwards d.id d.forward) (map (death_of forwards) entries)
    → map (death_of (set forwards id (Some f))) (entries ++ record { seat = seat; id = id } ∷ []) ≡ map (death_of forwards) entries ++ record { seat = seat; id = id; forward = f } ∷ []
deaths_after forwards id seat f entries live dead =
    let after : Forwards = set forwards id (Some f) in
    let stands : stand_in after id ≡ f = dead_stands after id f (set_here forwards id None (Some f) live) in
    map-append (death_of after) entries (record { seat = seat; id = id } ∷ [])
    ∙ (λ i. deaths_kept forwards id f entries live dead i ++ record { seat = seat; id = id; forward = stands i } ∷ [])
