use Rattle.std.proofs.Common.{sym, ◌∙◌}
use Rattle.ve_read.proofs.Equations.{no_sides, sides_at}
use Rattle.ve_read.proofs.form.sides.Goals as goal

pub returns-in_err-at : goal.returns-in_err-at
returns-in_err-at c = let a = c.in_err-at.was in let b = c.equals_in.ensures in rw c.from_residual.ensures (no_sides _ (sym c.equals_in.ensures ∙ c.in_err-at.was))

pub returns : goal.returns
returns c = sides_at _ _ (sym c.equals_in.ensures ∙ c.in_ok-at.was) c.requires
