use Rattle.ve_read.proofs.Fronts.{no_weight, weight_behind}
use Rattle.ve_read.proofs.form.take_weight.Goals as goal

pub returns-in_err-behind : goal.returns-in_err-behind
returns-in_err-behind c = λ x. rw c.from_residual.ensures (no_weight x _ (rw c.as_slice.ensures at c.in_err-behind.ensures))

pub returns : goal.returns
returns c = λ x. weight_behind x _ _ c.take_number.result (rw c.as_slice.ensures at c.in_ok-behind.ensures) c.take_number.ensures
