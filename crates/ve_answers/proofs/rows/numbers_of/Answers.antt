use Rattle.std.proofs.Common.{◌<◌, arith, sym, subst, ap, ◌∙◌, map, All}
use Rattle.std.specs.Prelude.{decimal}
use Rattle.std.proofs.lemmas.List.Elements.{All-push}
use Rattle.ve_answers.proofs.NumberPieces.{number_more, no_number}
use Rattle.ve_answers.proofs.rows.numbers_of.Goals as goal

pub loop-piece-preserved : goal.loop-piece-preserved
loop-piece-preserved c =
    let before = c.loop-piece.invariant in
    let pushed = c.in_ok-push.ensures.items in
    record {
      below = subst (All (λ n. n < c.args.limit)) (sym pushed) (All-push (λ n. n < c.args.limit) c.loop-piece.numbers.items c.in-Some.number before.below (omega (arith, c.in-Some.ensures.1, c.from.ensures, c.requires)));
      text = number_more c.args.pieces.now c.loop-piece.piece-index _ c.loop-piece.numbers.items c.in-Some.number c.loop-piece-test.true c.in-Some.ensures.0 before.text ∙ ap (map decimal) (sym pushed);
    }

pub returns-in_default : goal.returns-in_default
returns-in_default c =
    no_number c.args.pieces.now c.loop-piece.piece-index _ c.args.limit c.loop-piece-test.true (λ n most is. c.in_default.ensures n (omega (arith, most, c.from.ensures)) is)
