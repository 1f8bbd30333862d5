use Rattle.std.proofs.Common.{◌≡◌, ap, subst, sym, ◌∙◌}
use Rattle.ve_table.specs.Tables.{presented}
use Rattle.ve_machine.specs.HandSteps.{read_hand}
use Rattle.ve_hand.specs.Fits.{FitsHand}
use Rattle.ve_hand.specs.Views.{stage_of}
use Rattle.ve_hand.proofs.FromTables.{of_table, read_same}
use Rattle.ve_hand.proofs.Fitting.{read_fits}
use Rattle.ve_hand.proofs.hand.Hand.read.Goals as goal

pub returns-clause-ok : goal.returns-clause-ok
returns-clause-ok c =
    λ S is. c.in_ok-read.ensures.ok ∙ ap (read_hand (of_table c.args.table.now)) c.self.view_is ∙ read_same S c.args.table.now c.args.self.now is

pub returns-clause-fits : goal.returns-clause-fits
returns-clause-fits c =
    let new_is : stage_of c.read.new.self ≡ read_hand (of_table c.args.table.now) c.args.self.now = c.in_ok-read.ensures.ok ∙ ap (read_hand (of_table c.args.table.now)) c.self.view_is in
    subst (FitsHand (presented c.args.table.now).prime) (sym new_is) (read_fits c.args.table.now c.is_sound.ensures c.args.self.now c.requires)
