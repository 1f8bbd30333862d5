use Rattle.std.proofs.Common.{◌<◌, length, ap, arith}
use Rattle.ve_port.specs.Writing.{Writes-stopped, Writes-gained}
use Rattle.ve_show.proofs.LetterLines.{Gains-no_letters, Gains-letter, Gains-letters, Stops-letter}
use Rattle.ve_show.proofs.text.show_letters.Goals as goal

pub loop-letter-init : goal.loop-letter-init
loop-letter-init g c = Gains-no_letters _ _

pub loop-letter-preserved : goal.loop-letter-preserved
loop-letter-preserved g c =
    let inside : c.loop-letter.letter < length c.args.presentation.now.presentation.inverses = omega (arith, ap length c.names.ensures) in
    Gains-letter _ _ inside c.loop-letter.invariant c.in_ok-show_letter.ensures.gained

pub returns-in_err-show_letter : goal.returns-in_err-show_letter
returns-in_err-show_letter g c =
    let inside : c.loop-letter.letter < length c.args.presentation.now.presentation.inverses = omega (arith, ap length c.names.ensures) in
    Writes-stopped c.from_residual.ensures.1 (Stops-letter _ _ inside c.loop-letter.invariant c.in_err-show_letter.ensures.stopped)

pub returns : goal.returns
returns g c = Writes-gained _ (Gains-letters _ c.loop-letter.letter (omega (arith, ap length c.names.ensures)) c.loop-letter.invariant)
