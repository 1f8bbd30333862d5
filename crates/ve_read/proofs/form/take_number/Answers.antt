use Rattle.ve_read.proofs.Fronts.{number_first}
use Rattle.ve_read.proofs.form.take_number.Goals as goal

pub returns : goal.returns
returns c = number_first c.in_ok-first.ensures.cases.0 c.in-Number.value c.in-Number.text c.in-Number.is c.requires
