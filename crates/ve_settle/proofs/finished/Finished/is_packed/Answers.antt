use Rattle.std.proofs.Common.{length, sym, ap, ◌∙◌, eq-eqb, eqb-true}
use Rattle.ve_machine.proofs.PackedLevels.{packed_words}
use Rattle.ve_settle.proofs.finished.Finished.is_packed.Goals as goal

pub returns : goal.returns
returns c = rw (sym c.self.view_is) (
  λ answered. c.live_count.ensures.all.0 (eqb-true _ _ answered ∙ c.id_count.ensures),
  λ packed. eq-eqb _ _ (c.live_count.ensures.count ∙ ap length (packed_words c.self.inside.table packed c.self.invariant.sound) ∙ sym c.id_count.ensures),
)
