use Rattle.std.proofs.Common.{◌≡◌, ◌<◌, ◌++◌, length, codes, arith, ap, sym, ◌∙◌}
use Rattle.ve_out.proofs.AnswerParts.{names_line, no_names}
use Rattle.ve_out.proofs.answer.append_names.Goals as goal

pub loop-letter-init : goal.loop-letter-init
loop-letter-init c = no_names c.args.line.now.items c.append.new.line.items c.args.names.now c.in_ok-append.ensures

pub loop-letter-preserved : goal.loop-letter-preserved
loop-letter-preserved c =
    let inside : c.loop-letter.letter < length c.args.names.now = omega (arith, c.count-letter-end.ensures.count, c.loop-letter-test.true) in
    c.in_ok-append-3.ensures ∙ ap (λ n. c.append-in-loop-letter.new.line.items ++ n) c.as_bytes.ensures.value ∙ ap (λ l. l ++ c.name.result.now) c.in_ok-append-2.ensures
    ∙ names_line c.args.line.now.items c.args.names.now c.loop-letter.letter c.name.result.now c.loop-letter.line.items inside c.name.ensures c.loop-letter.invariant
