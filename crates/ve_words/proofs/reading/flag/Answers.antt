use Rattle.std.proofs.Common.{◌≡◌, true, codes, sym, ap, ◌∙◌}
use lib.Pointwise.{bytes_decides}
use Rattle.clap.specs.Words.{found_of}
use Rattle.ve_words.proofs.Values.{flag_given, flag_absent}
use Rattle.ve_words.proofs.reading.flag.Goals as goal

pub returns-in-Some : goal.returns-in-Some
returns-in-Some c =
    let decides = bytes_decides c.in-Some.text.now (codes "true") in
    flag_given (found_of c.args.matches.now) c.args.name.now c.in-Some.text.now c.eq.result c.in-Some.ensures (λ h. decides.0 (sym c.eq.ensures ∙ h)) (λ h. c.eq.ensures ∙ decides.1 h)

pub returns-in-None : goal.returns-in-None
returns-in-None c = flag_absent (found_of c.args.matches.now) c.args.name.now c.in-None.ensures
