use Rattle.std.proofs.Common.{arith, append_assoc}
use Rattle.std.proofs.lemmas.Grind.{common_steps}
use Rattle.ve_word.proofs.Texts.{word_text-generator, word_text-spelled, word_text-take_more}
use Rattle.ve_word.proofs.text.append_word.Goals as goal

pub loop-letter-init : goal.loop-letter-init
loop-letter-init c = grind (arith, common_steps, word_text-generator, append_assoc)

pub loop-letter-preserved : goal.loop-letter-preserved
loop-letter-preserved c =
    word_text-take_more
    _
    _
    _
    _
    _
    _
    _
    _
    _
    c.loop-letter-test.true
    c.name.ensures
    c.loop-letter.invariant
    c.in_ok-push-2.ensures.items
    (rw (← c.as_bytes-in-loop-letter.ensures.value) c.in_ok-extend_from_slice-2.ensures.items)

pub returns-clause-ok : goal.returns-clause-ok
returns-clause-ok c = grind (arith, common_steps, word_text-spelled)
