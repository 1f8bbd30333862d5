use Rattle.std.proofs.Common.{ap, ◌∙◌, sym, refl}
use Rattle.std.proofs.lemmas.Bool.{eqb-false}
use Rattle.ve_formats.specs.LineReading.{letters_form, letter_or_pair}
use Rattle.ve_read.specs.Forms.{declared_of}
use Rattle.ve_read.proofs.Fronts.{some_tokens, no_pair, pair_stands}
use Rattle.ve_read.proofs.form.letters.Goals as goal

pub returns-in_err-behind : goal.returns-in_err-behind
returns-in_err-behind c =
    let some = some_tokens _ (eqb-false _ _ (sym c.is_empty.ensures ∙ c.if-is_empty.false)) in
    rw c.from_residual-in_err-behind.ensures
    (ap letters_form c.in_ok-first.ensures.is ∙ no_pair _ _ some (rw c.as_slice.ensures at c.in_err-behind.ensures))

pub returns : goal.returns
returns c =
    let first = c.in_ok-first.ensures in
    let word = rw c.as_slice.ensures at c.in_ok-behind.ensures in
    record {
      line = _;
      is = ap letters_form first.is ∙ ap (letter_or_pair (declared_of c.in_ok-first.first)) word.front ∙ pair_stands _ _ ∙ c.in_ok-only_declared.ensures.only _;
      form_of_line = (refl, first.named, c.in_ok-only_declared.ensures.named);
    }
