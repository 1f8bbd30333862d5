use Rattle.std.proofs.Common.{◌≡◌, ◌+◌, ◌*◌, arith, ap, sym, subst, ◌∙◌, nat_eq, true, false, eq-eqb}
use Rattle.std.proofs.lemmas.Bool.{ne_eqb}
use Rattle.ve_pres.specs.Drafts.{with_submodule_relation}
use Rattle.ve_make.specs.Symmetric.{fixing_relation}
use Rattle.ve_make.specs.Parts.{swaps_draft, HasRoom}
use Rattle.ve_make.proofs.Building.{swaps_count, no_fix, passed_fix, next_fix, room_fix, more_room}
use Rattle.ve_make.proofs.lines.add_fixing.Goals as goal
use Rattle.ve_make.proofs.lines.add_fixing.Goals.{then-swap-node+in_ok-add_fix, else-swap-node}

pub loop-swap-init : goal.loop-swap-init
loop-swap-init c = record {
  stands = c.requires.stands ∙ ap (swaps_draft c.args.field.now c.args.swaps c.args.presentation.now.presentation.relations) (sym (no_fix c.args.field.now c.args.node));
  room = more_room c.args.presentation.now (24 * c.args.swaps) (24 * c.args.swaps + 0) (omega arith) c.requires.room;
}

pub add_fix-requires-clause-letter : goal.add_fix-requires-clause-letter
add_fix-requires-clause-letter c = let count = swaps_count _ _ _ _ c.loop-swap.presentation c.loop-swap.invariant.stands in omega arith

pub loop-swap-preserved : goal.loop-swap-preserved
loop-swap-preserved c = elim c.if-swap-node.branch [
  | then-swap-node+in_ok-add_fix w ↦
      let other : nat_eq (c.loop-swap.swap + 1) c.args.node ≡ false = ne_eqb (c.loop-swap.swap + 1) c.args.node w.if-swap-node.true in
      let new : c.if-swap-node.presentation ≡ with_submodule_relation c.loop-swap.presentation (fixing_relation c.args.field.now c.loop-swap.swap) =
      w.presentation-is ∙ w.in_ok-add_fix.ensures in
      record {
        stands = next_fix c.args.field.now c.args.swaps c.args.node c.loop-swap.swap c.args.presentation.now.presentation.relations c.loop-swap.presentation c.if-swap-node.presentation
            other c.loop-swap.invariant.stands new;
        room = subst (HasRoom (24 * c.args.swaps + (c.loop-swap.swap + 1))) (sym new)
            (more_room (with_submodule_relation c.loop-swap.presentation (fixing_relation c.args.field.now c.loop-swap.swap)) (24 * c.args.swaps + c.loop-swap.swap + 1)
            (24 * c.args.swaps + (c.loop-swap.swap + 1)) (omega arith)
            (room_fix c.loop-swap.presentation c.args.field.now c.loop-swap.swap (24 * c.args.swaps + c.loop-swap.swap) c.loop-swap.invariant.room));
      }
  | else-swap-node w ↦
      let same : nat_eq (c.loop-swap.swap + 1) c.args.node ≡ true = eq-eqb (c.loop-swap.swap + 1) c.args.node w.if-swap-node.false in
      record {
        stands = w.presentation-is ∙ c.loop-swap.invariant.stands
            ∙ ap (swaps_draft c.args.field.now c.args.swaps c.args.presentation.now.presentation.relations) (passed_fix c.args.field.now c.args.node c.loop-swap.swap same);
        room = subst (HasRoom (24 * c.args.swaps + (c.loop-swap.swap + 1))) (sym w.presentation-is)
            (more_room c.loop-swap.presentation (24 * c.args.swaps + c.loop-swap.swap) (24 * c.args.swaps + (c.loop-swap.swap + 1)) (omega arith) c.loop-swap.invariant.room);
      }
]
