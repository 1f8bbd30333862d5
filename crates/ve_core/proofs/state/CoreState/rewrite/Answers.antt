use Rattle.std.proofs.Common.{All, ap, sym, subst}
use Rattle.ve_table.specs.Tables.{ActionTable, presented}
use Rattle.ve_machine.specs.Machines.{to_rewrite}
use Rattle.ve_hand.specs.Fits.{FitsHand}
use Rattle.ve_core.proofs.Keeping.{kept_tried}
use Rattle.ve_core.proofs.Tables.{at_work_where_rewritten}
use Rattle.ve_core.proofs.Moves.{row_tried}
use Rattle.ve_core.proofs.state.CoreState.rewrite.Goals as goal

pub invariant_of-self-2 : goal.invariant_of-self-2
invariant_of-self-2 c =
    let done = c.in_ok-had.ensures.ok in
    kept_tried c.moves_go_right.ensures c.self.inside _ (to_rewrite c.args.id c.args.letter) c.in_ok-had.had c.self.invariant
    (row_tried c.self.inside c.rewrite.new.table c.args.id c.args.letter c.in_ok-had.had c.self.invariant done)
    (at_work_where_rewritten c.self.inside.opening.value c.self.inside.table c.rewrite.new.table c.args.id c.args.letter done.next c.self.invariant.table done.change)
    (subst (λ p. All (FitsHand p) c.self.inside.hands.items) (sym (ap (λ (T : ActionTable). (presented T).prime) done.change)) c.self.invariant.hands)

pub returns-clause-ok : goal.returns-clause-ok
returns-clause-ok c =
    rw (← c.self.view_is) (row_tried c.self.inside c.rewrite.new.table c.args.id c.args.letter c.in_ok-had.had c.self.invariant c.in_ok-had.ensures.ok)
