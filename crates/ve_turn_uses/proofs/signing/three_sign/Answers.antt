-- The last pass has the entries of all three.
use Rattle.std.proofs.Common.{rules, ◌≡◌, Bool, true, false, ℕ, List, [], ◌∷◌, ◌++◌, refl, ap, ◌∙◌}
use Rattle.ve_turn.specs.Journal.{entries_of}
use Rattle.ve_turn_uses.specs.Signing.{zeros}
use Rattle.ve_turn_uses.proofs.signing.three_sign.Goals as goal

abbrev all_of : Bool → List ℕ
all_of again = (zeros again ++ 1 ∷ []) ++ 2 ∷ []

each : (again : Bool) → (entries_of (λ e. e) 0 (all_of again) ≡ zeros again) × (entries_of (λ e. e) 1 (all_of again) ≡ 1 ∷ []) × (entries_of (λ e. e) 2 (all_of again) ≡ 2 ∷ [])
each true = (refl, refl, refl)
each false = (refl, refl, refl)

pub returns : goal.returns
returns g c =
    let first : c.in_ok-first.field-0.knows.own ≡ zeros c.args.again = search rules in
    let second : c.in_ok-second.field-0.knows.own ≡ 1 ∷ [] = search rules in
    let third : c.in_ok-third.field-0.knows.own ≡ 2 ∷ [] = search rules in
    let both : c.meet.result.knows.own ≡ zeros c.args.again ++ 1 ∷ [] = ap (λ k. k.own) c.meet.ensures.knows ∙ (λ i. first i ++ second i) in
    let own : c.meet-all.result.knows.own ≡ all_of c.args.again = ap (λ k. k.own) c.meet-all.ensures.knows ∙ (λ i. both i ++ third i) in
    let e = each c.args.again in
    (c.close.ensures.entries 0 ∙ (ap (entries_of (λ e. e) 0) own ∙ e.0), c.close.ensures.entries 1 ∙ (ap (entries_of (λ e. e) 1) own ∙ e.1), c.close.ensures.entries 2 ∙ (ap (entries_of (λ e. e) 2) own ∙ e.2))
