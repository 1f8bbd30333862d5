use Rattle.std.proofs.Common.{ℕ, Some, Ok, Err, sym, subst, refl}
use Rattle.std.proofs.lemmas.Result.{err_from_is_err_and}
use Rattle.ve_theory.specs.Combinations.{IsReduced}
use Rattle.ve_theory.specs.Words.{ShortlexLetters}
use Rattle.ve_formats.specs.Expressions.{difference}
use Rattle.ve_formats.specs.Values.{AddsUp, of_difference_left, of_difference_right}
use Rattle.ve_value.proofs.Joining.{tells_more, subtracted_gives}
use Rattle.ve_value.proofs.Limits.{adds_up, sum_refused}
use Rattle.ve_value.proofs.Evaluating.{value_reduced}
use Rattle.ve_value.proofs.value.difference_of.Goals as goal

pub returns-in_err-left : goal.returns-in_err-left
returns-in_err-left c = λ d e left right.
    let failed = err_from_is_err_and c.from_residual.result c.from_residual.ensures.1 in
    rw (failed.1, failed.2) (tells_more _ _ (λ cause h. of_difference_left h) _ (c.in_err-left.ensures d left))

pub returns-in_err-right : goal.returns-in_err-right
returns-in_err-right c = λ d e left right.
    let failed = err_from_is_err_and c.from_residual-in_err-right.result c.from_residual-in_err-right.ensures.1 in
    rw (failed.1, failed.2) (tells_more _ _ (λ cause h. of_difference_right (c.in_ok-left.ensures d left).value h) _ (c.in_err-right.ensures e right))

pub negative-opposite-requires : goal.negative-opposite-requires
negative-opposite-requires c = value_reduced _ _ _ c.requires.right_formed c.in_ok-right.ensures

pub plus-requires-clause-left : goal.plus-requires-clause-left
plus-requires-clause-left c = subst (λ (p : ℕ). IsReduced ShortlexLetters p c.in_ok-left.left) (sym c.field-field.ensures.field) (value_reduced _ _ _ c.requires.left_formed c.in_ok-left.ensures)

pub returns-in_err-plus : goal.returns-in_err-plus
returns-in_err-plus c = λ d e left right.
    let failed = err_from_is_err_and c.from_residual-in_err-plus.result c.from_residual-in_err-plus.ensures.1 in
    rw (failed.1, failed.2)
    (subtracted_gives _ (difference d) e (Some c.in_ok-left.left) _ _ (Err _) (d, c.in_ok-left.ensures d left, λ f. refl) (c.in_ok-right.ensures e right) c.negative-opposite.ensures
    (sum_refused _ _ _ _ c.in_err-plus.ensures.limit))

pub returns : goal.returns
returns c = λ d e left right.
    let sums = subst (λ (p : ℕ). AddsUp p c.in_ok-left.left c.negative-opposite.result (Ok c.in_ok-plus.field-0)) c.field-field.ensures.field (adds_up _ _ _ _ c.in_ok-plus.ensures.sum c.in_ok-plus.ensures.limit) in
    subtracted_gives _ (difference d) e (Some c.in_ok-left.left) _ _ (Ok _) (d, c.in_ok-left.ensures d left, λ f. refl) (c.in_ok-right.ensures e right) c.negative-opposite.ensures sums
