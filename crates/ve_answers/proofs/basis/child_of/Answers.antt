use Rattle.std.proofs.Common.{Some, refl, sym, ap, ◌∙◌}
use Rattle.std.proofs.lemmas.Bool.{both_ways}
use Rattle.ve_theory.specs.Validity.{is_name}
use Rattle.ve_answers.proofs.NextWords.{letter_has_name, listed}
use Rattle.ve_answers.proofs.basis.child_of.Goals as goal

pub returns-in_err-place : goal.returns-in_err-place
returns-in_err-place c = rw c.from_residual.ensures (λ at x found named. c.in_err-place.ensures (listed c.args.texts.now at c.args.parent.now found))

pub returns-in_err-name_of : goal.returns-in_err-name_of
returns-in_err-name_of c =
    rw c.from_residual-in_err-name_of.ensures
    (λ at x found named. both_ways (is_name c.args.name.now) c.in_err-name_of.ensures (letter_has_name c.args.head.now c.requires.head x c.args.name.now named))

pub returns-in_err-letter : goal.returns-in_err-letter
returns-in_err-letter c =
    rw c.from_residual-in_err-letter.ensures
    (λ at x found named. c.in_err-letter.ensures.absent.0 refl (listed c.args.head.now.names x c.in_ok-name_of.field-0.now (named ∙ ap Some (sym c.in_ok-name_of.ensures.0))))

pub returns : goal.returns
returns c = (c.in_ok-place.place, c.in_ok-letter.letter, refl, c.in_ok-place.ensures, (c.in_ok-letter.ensures.found c.in_ok-letter.letter).0 refl ∙ ap Some c.in_ok-name_of.ensures.0)
