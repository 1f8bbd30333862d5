use Rattle.ve_formats.specs.ModuleValues.{of_unknown, of_generator}
use Rattle.ve_value.proofs.GeneratorNames.{times_number}
use Rattle.ve_value.proofs.module_value.generator.Goals as goal

pub returns-in_default : goal.returns-in_default
returns-in_default c = λ n is. of_unknown c.in_default.ensures

pub returns : goal.returns
returns c = λ n is.
    let scaled = rw (c.reduce-residue.ensures.residue_of, c.from.ensures, c.field-field.ensures.field, c.in_ok-value.ensures.root, ← is) at c.in_ok-scale.ensures.multiple in
    let element = times_number _ _ _ _ scaled in
    record { value = of_generator c.in-Some.ensures element; reduced = element.reduced }
