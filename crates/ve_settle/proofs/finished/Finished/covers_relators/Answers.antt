use Rattle.std.proofs.Common.{◌≡◌, refl, ap, sym, ◌∙◌, arith}
use Rattle.std.proofs.lemmas.Bool.{leb-true, le-leb}
use Rattle.ve_theory.specs.Presentations.{reach, relator_bound}
use Rattle.ve_table.specs.Tables.{ActionTable, presented, word_at}
use Rattle.ve_settle.proofs.LiveWords.{last_decides, nothing_normal}
use Rattle.ve_settle.proofs.finished.Finished.covers_relators.Goals as goal

pub returns-in-Some : goal.returns-in-Some
returns-in-Some c =
    let T : ActionTable = c.self.inside.table in
    let order = c.words_are_ordered.ensures (presented T) c.self.invariant.sound.valid.presentation in
    let decides = last_decides T c.self.invariant (c.finished_tables_settle.ensures T c.self.invariant) order c.in-Some.id (relator_bound (presented T)) c.in-Some.ensures.live.0 c.in-Some.ensures.live.1 in
    let reach_is : c.from-reach.result ≡ reach (presented T) (word_at T c.in-Some.id) = c.from-reach.ensures ∙ c.reach.ensures.reach in
    let bound_is : c.from-bound.result ≡ relator_bound (presented T) = c.from-bound.ensures ∙ c.d.ensures.bound ∙ ap (λ d. relator_bound d.presentation) c.presentation.ensures.value in
    let level_is : c.from.result ≡ T.level = c.from.ensures ∙ c.level.ensures in
    rw (sym c.self.view_is) (
      λ answered. decides.0 (omega (arith, leb-true _ _ answered, reach_is, bound_is, level_is)),
      λ all. le-leb _ _ (omega (arith, decides.1 all, reach_is, bound_is, level_is)),
    )

pub returns-in-None : goal.returns-in-None
returns-in-None c =
    let T : ActionTable = c.self.inside.table in
    rw (sym c.self.view_is) (
      λ answered w normal. absurd (nothing_normal T c.self.invariant (c.finished_tables_settle.ensures T c.self.invariant) (c.in-None.ensures.none) w normal),
      λ all. refl,
    )
