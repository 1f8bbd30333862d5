use Rattle.std.proofs.Common.{ap, ◌∙◌, refl}
use Rattle.ve_formats.specs.LineReading.{form_of, form_behind}
use Rattle.ve_value.specs.Shapes.{tokens_in}
use Rattle.ve_read.proofs.Fronts.{none_first, first_token, rest_written, form_first, no_form, formless}
use Rattle.ve_read.proofs.form.form_of.Goals as goal

pub returns-in_err-first : goal.returns-in_err-first
returns-in_err-first c = rw c.from_residual.ensures (ap form_of (none_first _ c.in_err-first.ensures.cases) ∙ no_form)

pub returns-in_default : goal.returns-in_default
returns-in_default c = ap form_of (first_token c.in_ok-first.ensures.cases.0 _ refl) ∙ formless _ _ c.in_default.not-Name

pub form_behind-requires : goal.form_behind-requires
form_behind-requires c = rest_written c.in_ok-first.ensures.cases.0 c.requires

pub returns : goal.returns
returns c =
    let rest = tokens_in c.in_ok-first.rest.now in
    let line = ap form_of (first_token c.in_ok-first.ensures.cases.0 _ c.in-Name.is) ∙ form_first _ _ ∙ ap (λ k. form_behind k rest) c.keyword_of.ensures in
    rw line c.form_behind.ensures
