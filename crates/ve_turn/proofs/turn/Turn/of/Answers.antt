use Rattle.std.proofs.Common.{[], ◌∷◌, None}
use Rattle.ve_turn.specs.declared.view.View.TheVariants.{Inside}
use Rattle.ve_turn.proofs.Standing.{stands}
use Rattle.ve_turn.proofs.turn.Turn.of.Goals as goal

pub invariant_of-result : goal.invariant_of-result
invariant_of-result g c = let r = c.requires in (((r.1, r.0), stands c.args.token (Inside r.1 r.0) ((0, None) ∷ []) r.2), tt)
