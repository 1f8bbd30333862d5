use Rattle.std.proofs.Common.{◌≡◌, ◌≤◌, length, ◌∙◌}
use Rattle.std.proofs.lemmas.Result.{err_from_is_err_and}
use Rattle.ve_theory.specs.Validity.{most_letters}
use Rattle.ve_read.specs.Forms.{declared_of}
use Rattle.ve_read.proofs.Letters.{fault_of_add, new_by_add, name_fault, judged_by_weight}
use Rattle.ve_read.proofs.building.Building.judge.Goals as goal

pub returns-in_err-add : goal.returns-in_err-add
returns-in_err-add c =
    let failed = err_from_is_err_and c.from_residual-in_err-add.result c.from_residual-in_err-add.ensures.1 in
    let x = declared_of c.args.letter.now in
    let P = c.args.self.now.presentation.presentation in
    let names : c.in_ok-names.names ≡ P.names = c.in_ok-names.ensures ∙ c.names.ensures in
    let clauses = c.add.ensures in
    let fault = fault_of_add c.in_ok-names.names c.text_of.result.now c.add.result clauses.rooted clauses.taken clauses.full c.in_err-add.field-0.0 c.in_err-add.was in
    rw (failed.1, failed.2) (name_fault P x c.in_err-add.field-0.0 (rw (names, c.text_of.ensures) at fault))

pub returns : goal.returns
returns c =
    let x = declared_of c.args.letter.now in
    let P = c.args.self.now.presentation.presentation in
    let names : c.in_ok-names.names ≡ P.names = c.in_ok-names.ensures ∙ c.names.ensures in
    let few : length c.in_ok-names.names ≤ most_letters = rw names c.is_valid.ensures.valid.letters in
    let clauses = c.add.ensures in
    let new = new_by_add c.in_ok-names.names c.text_of.result.now c.add.result clauses.rooted clauses.taken clauses.full c.in_ok-add.field-0 c.in_ok-add.was few in
    judged_by_weight P x c.weight_of.result (rw (names, c.text_of.ensures) at new) c.weight_of.ensures
