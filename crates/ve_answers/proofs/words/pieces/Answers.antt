use Rattle.std.proofs.Common.{◌++◌, sym, subst, ◌∙◌, map, ap, All}
use Rattle.ve_formats.specs.Lines.{each_after_space}
use Rattle.ve_formats.specs.Pieces.{Lacks}
use Rattle.ve_answers.proofs.Pieces.{one_piece_more, lack_more, begins_cut, no_pieces, none_lack}
use Rattle.ve_answers.proofs.words.pieces.Goals as goal

pub loop-piece-init : goal.loop-piece-init
loop-piece-init c = record { text = no_pieces c.args.text.now _ c.new-pieces.ensures.items; lack = none_lack _ c.new-pieces.ensures.items; begins = begins_cut c.args.text.now }

pub loop-piece-preserved : goal.loop-piece-preserved
loop-piece-preserved c =
    let before = c.loop-piece.invariant in
    let pushed = c.in_ok-push.ensures.items in
    record {
      text = before.text ∙ one_piece_more c.loop-piece.pieces.items c.in-Some.piece c.loop-piece.rest.now c.in-Some.behind.now c.in-Some.ensures.0
          ∙ ap (λ items. each_after_space (map (λ piece. piece.now) items) ++ c.in-Some.behind.now) (sym pushed);
      lack = subst (λ items. All (Lacks 32) (map (λ piece. piece.now) items)) (sym pushed) (lack_more c.loop-piece.pieces.items c.in-Some.piece before.lack c.in-Some.ensures.1);
      begins = λ xs is. c.in-Some.ensures.2;
    }
