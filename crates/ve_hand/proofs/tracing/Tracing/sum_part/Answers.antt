use Rattle.std.proofs.Common.{map}
use Rattle.ve_hand.specs.Parts.{part_of}
use Rattle.ve_hand.specs.Views.{reading_of, stage_of}
use Rattle.ve_hand.proofs.GoingOn.{part_summed}
use Rattle.ve_hand.proofs.tracing.Tracing.sum_part.Goals as goal

pub returns-clause-ok : goal.returns-clause-ok
returns-clause-ok c =
    part_summed c.args.field.now c.args.self.now.sum c.add_scaled.new.self c.args.self.now.coef (map part_of c.args.self.now.parts.items) c.args.self.now.product.vector
    c.args.self.now.letters.items (reading_of c.args.self.now.product) (stage_of c.next_stage.result) c.requires.traced
    (rw (← c.replace-sum.ensures.value, ← c.replace-parts.ensures.value) c.next_stage.ensures) c.in_ok-add_scaled.ensures.ok
