use Rattle.std.proofs.Common.{◌≡◌, ◌<◌, ◌≤◌, [], ◌∷◌, ap, ◌∙◌, length, Some, arith}
use Rattle.std.proofs.lemmas.Result.{err_from_is_err_and}
use Rattle.ve_theory.specs.Presentations.{most_weight}
use Rattle.ve_formats.specs.PresentationLines.{weight_of}
use Rattle.ve_pres.specs.Drafts.{with_letters, with_weight}
use Rattle.ve_read.specs.Forms.{declared_of}
use Rattle.ve_read.specs.Drafts.{built_of, stage_of}
use Rattle.ve_read.proofs.Letters.{name_fault, weight_fault, declares, weight_at}
use Rattle.ve_read.proofs.LetterLines.{involution_refused, involution_taken}
use Rattle.ve_read.proofs.building.Building.declare_involution.Goals as goal

pub returns-in_err-number : goal.returns-in_err-number
returns-in_err-number c =
    let failed = err_from_is_err_and c.from_residual-in_err-number.result c.from_residual-in_err-number.ensures.1 in
    let x = declared_of c.args.letter.now in
    let P = c.args.self.now.presentation.presentation in
    let fault = rw c.text_of.ensures at c.in_err-number.ensures.fault in
    rw (failed.1, failed.2) (involution_refused (built_of c.args.self.now) x (ap stage_of c.requires.stage) c.in_ok-check_weight.ensures.place _ (name_fault P x _ fault))

pub returns-in_err-weight : goal.returns-in_err-weight
returns-in_err-weight c =
    let failed = err_from_is_err_and c.from_residual-in_err-weight.result c.from_residual-in_err-weight.ensures.1 in
    let x = declared_of c.args.letter.now in
    let P = c.args.self.now.presentation.presentation in
    let fresh = rw c.text_of.ensures at c.in_ok-number.ensures.fresh in
    let told = c.in_err-weight.ensures in
    rw (failed.1, failed.2, told.0)
    (involution_refused (built_of c.args.self.now) x (ap stage_of c.requires.stage) c.in_ok-check_weight.ensures.place _ (weight_fault P x fresh told.1))

pub weigh-requires-clause-letter : goal.weigh-requires-clause-letter
weigh-requires-clause-letter c =
    rw (c.in_ok-number.ensures.ok, c.in_ok-number.ensures.letter) (weight_at c.args.self.now.presentation c.check_weight.ensures.valid.presentation.one_weight_each [])

pub returns : goal.returns
returns c =
    let x = declared_of c.args.letter.now in
    let built = c.args.self.now in
    let d = built.presentation in
    let fresh = rw c.text_of.ensures at c.in_ok-number.ensures.fresh in
    let weight = c.in_ok-weight.ensures in
    let is_weight : c.in_ok-weight.weight ≡ weight_of x = weight.0 in
    let positive : 0 < weight_of x = let p = weight.1 in omega arith in
    let small : weight_of x ≤ most_weight = let p = weight.2 in omega arith in
    let added : c.add_involution.new.self ≡ with_letters d (x.called ∷ []) (Some (length d.presentation.names) ∷ []) =
    c.in_ok-number.ensures.ok ∙ ap (λ name. with_letters d (name ∷ []) (Some (length d.presentation.names) ∷ [])) c.text_of.ensures in
    let next : c.weigh.new.presentation ≡ with_weight (with_letters d (x.called ∷ []) (Some (length d.presentation.names) ∷ [])) (length d.presentation.names) (weight_of x) =
    c.weigh.ensures.weight ∙ (λ i. with_weight (added i) (c.in_ok-number.ensures.letter i) (is_weight i)) in
    involution_taken built c.requires.stage c.requires.kept c.check_weight.ensures.valid c.weigh.new.presentation c.weigh.ensures.open x c.in_ok-check_weight.ensures.place
    (declares d.presentation x fresh positive small) next
