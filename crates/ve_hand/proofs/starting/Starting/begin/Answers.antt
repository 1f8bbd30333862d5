use Rattle.std.proofs.Common.{refl, sym}
use Rattle.ve_hand.proofs.GoingOn.{stage_begun}
use Rattle.ve_hand.proofs.starting.Starting.begin.Goals as goal

pub returns-clause-ok : goal.returns-clause-ok
returns-clause-ok c =
    stage_begun c.args.field.now c.args.self.now c.add_row.new.self c.in-Some.read _ c.in_ok-add_row.ensures.same (sym c.in-Some.ensures.value) c.in_ok-add_row.ensures.ok
    (rw c.unread.ensures.vector c.begun_vector.ensures) c.replace.ensures.value refl c.replace-2.ensures.value c.replace-3.ensures.value c.unread.ensures.unread
