use Rattle.std.proofs.Common.{◌≡◌, ◌+◌, ◌<◌, ◌≤◌, ℕ, List, length, drop, ap, sym, subst, ◌∙◌, arith}
use Rattle.std.specs.Prelude.{All, sum_by}
use Rattle.std.specs.List.{AllWithin}
use Rattle.std.proofs.lemmas.List.{get_or_default, take_rest}
use Rattle.ve_theory.specs.Presentations.{Presentation, greatest_step}
use Rattle.ve_table.specs.declared.entry.Entry.{Entry}
use Rattle.ve_table.specs.Steps.{HasRisingReaches, live_steps}
use Rattle.ve_table.proofs.Stepping.{rising_reaches, steps_of_words, steps_from}
use Rattle.ve_table.proofs.table.Table.next_size.Goals as goal

pub first_of_reach-first-requires : goal.first_of_reach-first-requires
first_of_reach-first-requires c = subst HasRisingReaches (sym c.deref.ensures.value) (rising_reaches c.self.inside c.self.invariant)

pub returns : goal.returns
returns c =
    rw (← c.self.view_is)
    (let P : Presentation = c.self.inside.presentation.presentation in
    let es : List Entry = c.self.inside.entries.items in
    let k : ℕ = c.self.inside.level + 1 in
    let bounds = (c.reaches_are_bounded.ensures P c.self.invariant.sound.valid.presentation).steps in
    let within : All (λ s. s ≤ greatest_step P) P.weights = λ i d lt. let le = bounds i in let same = get_or_default P.weights i d 1 lt in omega (arith, le, same) in
    let first : ℕ = c.first_of_reach-first.result in
    let below = subst (λ l. AllWithin (λ (e : Entry). e.reach + greatest_step P < k) l 0 first) c.deref.ensures.value
    (λ i d le lt. let short = c.first_of_reach-first.ensures.below i d le lt in omega (arith, short, c.saturating_sub-least.ensures, c.greatest_weight.ensures, c.from.ensures, c.from-next.ensures)) in
    let rest = steps_from P.weights (greatest_step P) k first es within below (omega (arith, c.first_of_reach-first.ensures.bound, ap length c.deref.ensures.value)) in
    let words = steps_of_words c.self.inside c.self.invariant k in
    let steps : c.steps_to.result ≡ sum_by (live_steps P.weights k) (drop first es) =
    c.steps_to.ensures.steps
    ∙ ap (λ l. sum_by (live_steps c.deref-3.result.now (c.from-next.result + 1)) l) (take_rest c.deref-2.result.now first)
    ∙ ap (λ l. sum_by (live_steps c.deref-3.result.now (c.from-next.result + 1)) (drop first l)) c.deref-2.ensures.value
    ∙ ap (λ weights. sum_by (live_steps weights (c.from-next.result + 1)) (drop first es)) (c.deref-3.ensures.value ∙ c.weights-weights.ensures)
    ∙ ap (λ level. sum_by (live_steps P.weights (level + 1)) (drop first es)) c.from-next.ensures in
    omega (arith, steps, rest, words, c.from-2.ensures, c.self.invariant.live_count))
