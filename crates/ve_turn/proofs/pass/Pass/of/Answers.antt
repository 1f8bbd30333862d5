use Rattle.std.proofs.Common.{[]}
use Rattle.ve_turn.specs.declared.view.View.TheVariants.{Outside}
use Rattle.ve_turn.proofs.Standing.{stands}
use Rattle.ve_turn.proofs.pass.Pass.of.Goals as goal

pub invariant_of-result : goal.invariant_of-result
invariant_of-result g c = let r = c.requires in ((r.0, stands c.args.token (Outside r.0) [] r.1), tt)
