use Rattle.std.proofs.Common.{◌≡◌, ap, sym, subst, ◌∙◌, ◌++◌, []}
use Rattle.std.specs.List.{flat_map}
use Rattle.ve_formats.specs.Lines.{numbers_below}
use Rattle.ve_make.specs.Symmetric.{relations_of_swap}
use Rattle.ve_make.specs.Parts.{swaps_draft, HasRoom}
use Rattle.ve_make.proofs.Building.{no_orders, next_orders, first_room}
use Rattle.ve_make.proofs.lines.add_orders.Goals as goal

pub loop-first-init : goal.loop-first-init
loop-first-init c = record {
  stands = c.requires.stands ∙ ap (λ rs. swaps_draft c.args.field.now c.args.swaps rs []) (sym (no_orders c.args.field.now c.args.swaps));
  room = subst (HasRoom 0) (sym c.requires.stands) (first_room c.args.field.now c.args.swaps c.requires.few);
}

pub loop-first-preserved : goal.loop-first-preserved
loop-first-preserved c =
    let relations : c.loop-first.presentation.presentation.relations ≡ flat_map (relations_of_swap c.args.field.now c.args.swaps) (numbers_below c.loop-first.first) =
    ap (λ d. d.presentation.relations) c.loop-first.invariant.stands in
    record {
      stands = c.in_ok-add_orders_with.ensures.added
          ∙ ap (λ rs. swaps_draft c.args.field.now c.args.swaps (rs ++ relations_of_swap c.args.field.now c.args.swaps c.loop-first.first) []) relations
          ∙ ap (λ rs. swaps_draft c.args.field.now c.args.swaps rs []) (next_orders c.args.field.now c.args.swaps c.loop-first.first);
      room = c.in_ok-add_orders_with.ensures.room;
    }
