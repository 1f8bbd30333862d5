use Rattle.std.proofs.Common.{map}
use Rattle.ve_hand.specs.Parts.{part_of}
use Rattle.ve_hand.proofs.GoingOn.{part_repaired}
use Rattle.ve_hand.proofs.tracing.Tracing.repair.Goals as goal

pub returns-clause-ok : goal.returns-clause-ok
returns-clause-ok c =
    part_repaired c.args.field.now c.args.self.now.product c.repair.new.self c.args.self.now.sum c.args.self.now.coef (map part_of c.args.self.now.parts.items)
    c.args.self.now.letters.items c.in_ok-had.had c.in_ok-had.ensures.ok
