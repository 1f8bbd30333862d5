use Rattle.std.proofs.Common.{ap, ◌∙◌, refl, Some}
use Rattle.ve_formats.specs.LineReading.{take_declared}
use Rattle.ve_read.proofs.Fronts.{none_first, declared_first, none_declared, undeclared, first_token, rest_written, named_first}
use Rattle.ve_read.proofs.form.take_declared.Goals as goal

pub returns-in_err-first : goal.returns-in_err-first
returns-in_err-first c = rw c.from_residual.ensures (ap take_declared (none_first _ c.in_err-first.ensures.cases) ∙ none_declared)

pub returns-in_default : goal.returns-in_default
returns-in_default c = ap take_declared (first_token c.in_ok-first.ensures.cases.0 _ refl) ∙ undeclared _ _ c.in_default.not-Name

pub take_weight-requires : goal.take_weight-requires
take_weight-requires c = rest_written c.in_ok-first.ensures.cases.0 c.requires

pub returns-in-Some : goal.returns-in-Some
returns-in-Some c =
    let weight = c.in-Some.ensures c.in-Name.name.now in
    record {
      is = ap take_declared (first_token c.in_ok-first.ensures.cases.0 _ c.in-Name.is) ∙ declared_first _ _ ∙ ap Some weight.is;
      named = named_first c.in_ok-first.ensures.cases.0 _ c.in-Name.is c.requires;
      written = weight.written;
    }

pub returns-in-None : goal.returns-in-None
returns-in-None c = record {
  is = ap take_declared (first_token c.in_ok-first.ensures.cases.0 _ c.in-Name.is) ∙ declared_first _ _ ∙ ap Some (c.in-None.ensures c.in-Name.name.now);
  named = named_first c.in_ok-first.ensures.cases.0 _ c.in-Name.is c.requires;
  written = rest_written c.in_ok-first.ensures.cases.0 c.requires;
}
