use Rattle.std.proofs.Common.{◌≡◌, ap, ◌∙◌}
use Rattle.ve_table.specs.Tables.{presented}
use Rattle.ve_settle.proofs.Deleting.{drawn, forward_is, forward_live, first_reduced, rest_positive}
use Rattle.ve_settle.proofs.deletion.delete.Goals as goal

pub neg-requires : goal.neg-requires
neg-requires c =
    let same : c.field.result.now ≡ (presented c.args.table.now).prime = c.field.ensures.field ∙ ap (λ d. d.presentation.prime) c.presentation.ensures.value in
    rw same (first_reduced _ _ _ _ _ c.in_ok-leading.ensures.first c.requires.row.0).1

pub inv-by-requires-clause-nonzero : goal.inv-by-requires-clause-nonzero
inv-by-requires-clause-nonzero c =
    let same : c.field.result.now ≡ (presented c.args.table.now).prime = c.field.ensures.field ∙ ap (λ d. d.presentation.prime) c.presentation.ensures.value in
    let first = first_reduced _ _ _ _ _ c.in_ok-leading.ensures.first c.requires.row.0 in
    rest_positive (presented c.args.table.now).prime c.in_ok-leading.leading.coef c.neg.result first.0 first.1 (rw same at c.neg.ensures.negative)

pub scale-requires-clause-fits : goal.scale-requires-clause-fits
scale-requires-clause-fits c =
    let same : c.field.result.now ≡ (presented c.args.table.now).prime = c.field.ensures.field ∙ ap (λ d. d.presentation.prime) c.presentation.ensures.value in
    rw same (first_reduced _ _ _ _ _ c.in_ok-leading.ensures.first c.requires.row.0).2

pub kill-requires-clause-live_ids : goal.kill-requires-clause-live_ids
kill-requires-clause-live_ids c =
    let same : c.field.result.now ≡ (presented c.args.table.now).prime = c.field.ensures.field ∙ ap (λ d. d.presentation.prime) c.presentation.ensures.value in
    forward_live c.args.table.now c.args.vector _ c.scale.new.self c.in_ok-leading.leading.id c.in_ok-leading.leading.coef c.neg.result c.inv-by.result c.in_ok-leading.ensures.first
    c.requires.row c.requires.live (rw same at c.neg.ensures.negative) (rw same at c.inv-by.ensures.inverse) (rw same at c.scale.ensures.product)

pub kill-requires-clause-forward : goal.kill-requires-clause-forward
kill-requires-clause-forward c =
    let same : c.field.result.now ≡ (presented c.args.table.now).prime = c.field.ensures.field ∙ ap (λ d. d.presentation.prime) c.presentation.ensures.value in
    forward_is c.args.table.now c.args.vector _ c.scale.new.self c.in_ok-leading.leading.id c.in_ok-leading.leading.coef c.neg.result c.inv-by.result c.in_ok-leading.ensures.first
    c.requires.row c.requires.live (rw same at c.neg.ensures.negative) (rw same at c.inv-by.ensures.inverse) (rw same at c.scale.ensures.product) c.requires.derived

pub returns-clause-dead : goal.returns-clause-dead
returns-clause-dead c =
    let same : c.field.result.now ≡ (presented c.args.table.now).prime = c.field.ensures.field ∙ ap (λ d. d.presentation.prime) c.presentation.ensures.value in (
      c.scale.new.self,
      drawn c.args.table.now c.args.vector _ c.scale.new.self c.in_ok-leading.leading.id c.in_ok-leading.leading.coef c.neg.result c.inv-by.result c.in_ok-leading.ensures.first
          c.requires.row c.requires.live (rw same at c.neg.ensures.negative) (rw same at c.inv-by.ensures.inverse) (rw same at c.scale.ensures.product),
      c.kill.ensures.dead,
    )
