use Rattle.std.proofs.Common.{length, arith}
use Rattle.std.proofs.lemmas.List.{nil_from_length}
use Rattle.ve_out.proofs.Climbing.{letter_pushed, all_pushed}
use Rattle.ve_out.proofs.basis.word_at.Goals as goal

pub loop-letter-preserved : goal.loop-letter-preserved
loop-letter-preserved c =
    letter_pushed c.loop-letter.word _ c.in-Some.letter c.loop-letter.letters.items _ _ c.in-Some.ensures.items c.in_ok-push.ensures.ok c.loop-letter.invariant

pub returns : goal.returns
returns c = all_pushed c.loop-letter.word c.loop-letter.letters.items _ (nil_from_length c.loop-letter.letters.items (omega (arith, c.loop-letter.letters.ok.0, c.in_default.ensures.cases.0))) c.loop-letter.invariant
