use Rattle.std.proofs.Common.{Ok, Err}
use Rattle.std.proofs.lemmas.Result.{err_from_is_err_and}
use Rattle.ve_value.proofs.Joining.{tells_more, times_gives, joins_passes, added_gives, subtracted_gives}
use Rattle.ve_value.proofs.factor.Pending.total.Goals as goal

pub returns-in_err-term : goal.returns-in_err-term
returns-in_err-term c = λ frame e h k.
    let failed = err_from_is_err_and c.from_residual.result c.from_residual.ensures.1 in
    rw (failed.1, failed.2)
    (tells_more _ _ (λ cause faulty. joins_passes _ _ _ _ h.sum _ cause faulty) _ (times_gives _ _ _ _ _ (Err _) h.product k c.in_err-term.ensures))

pub returns-then-self : goal.returns-then-self
returns-then-self c = λ frame e h k.
    let worth = times_gives _ _ _ _ _ (Ok c.in_ok-term.term) h.product k c.in_ok-term.ensures in
    let sum = rw c.if-self.true at h.sum in
    subtracted_gives _ _ _ _ _ _ _ sum worth c.negative.ensures c.joined.ensures

pub returns-else-self : goal.returns-else-self
returns-else-self c = λ frame e h k.
    let worth = times_gives _ _ _ _ _ (Ok c.in_ok-term.term) h.product k c.in_ok-term.ensures in
    let sum = rw c.if-self.false at h.sum in
    added_gives _ _ _ _ _ _ sum worth c.joined-else-self.ensures
