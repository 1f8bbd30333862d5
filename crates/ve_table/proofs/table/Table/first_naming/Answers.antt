use Rattle.std.proofs.Common.{ap, arith}
use Rattle.ve_theory.specs.Presentations.{greatest_step}
use Rattle.ve_table.specs.Tables.{ActionTable, presented}
use Rattle.ve_table.proofs.Unmoved.{rows_below}
use Rattle.ve_table.proofs.table.Table.first_naming.Goals as goal

pub returns-clause-below : goal.returns-clause-below
returns-clause-below c =
    let T : ActionTable = c.args.self.now in
    let same = ap (λ T. greatest_step (presented T)) c.self.view_is in
    rows_below T c.is_sound.ensures (c.reaches_are_bounded.ensures (presented T) c.is_sound.ensures.valid.presentation) c.args.id c.first_of_reach.result c.from.result c.requires
    (omega (arith, c.from.ensures, c.saturating_sub-reach.ensures, c.reach.ensures.reach, c.from-greatest.ensures, c.greatest_weight.ensures, same)) c.first_of_reach.ensures.below

pub returns-clause-near : goal.returns-clause-near
returns-clause-near c =
    let same = ap (λ T. greatest_step (presented T)) c.self.view_is in
    λ b le is.
    omega (
      arith,
      c.first_of_reach.ensures.rest b le is,
      c.from.ensures,
      c.saturating_sub-reach.ensures,
      c.reach.ensures.reach,
      c.from-greatest.ensures,
      c.greatest_weight.ensures,
      same,
    )
