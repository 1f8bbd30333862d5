use Rattle.std.proofs.Common.{map}
use Rattle.ve_hand.specs.Parts.{part_of}
use Rattle.ve_hand.proofs.GoingOn.{part_multiplied}
use Rattle.ve_hand.proofs.tracing.Tracing.multiply.Goals as goal

pub returns-clause-ok : goal.returns-clause-ok
returns-clause-ok c =
    part_multiplied c.args.field.now c.args.self.now.product c.multiply.new.self c.args.self.now.sum c.args.self.now.coef (map part_of c.args.self.now.parts.items)
    c.args.self.now.letters.items c.pop_front.new.self.items c.requires.letter c.pop_front.ensures.rest (rw c.if-not-branch.false at c.in_ok-multiply.ensures.ok)
