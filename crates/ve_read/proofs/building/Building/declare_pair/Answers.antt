use Rattle.std.proofs.Common.{◌≡◌, ◌+◌, ◌<◌, ◌≤◌, [], ◌∷◌, ap, ◌∙◌, length, Some, arith}
use Rattle.std.proofs.lemmas.Result.{err_from_is_err_and}
use Rattle.ve_theory.specs.Presentations.{most_weight}
use Rattle.ve_formats.specs.PresentationLines.{weight_of}
use Rattle.ve_pres.specs.Drafts.{with_letters, with_weight}
use Rattle.ve_read.specs.Forms.{declared_of}
use Rattle.ve_read.specs.Drafts.{built_of, stage_of}
use Rattle.ve_read.proofs.Letters.{weight_fault, declares, weight_at}
use Rattle.ve_formats.specs.PresentationLines.{with_first}
use Rattle.ve_read.proofs.Letters.{free_letter, version_or_one, pair_fault, first_weighed, second_at}
use Rattle.ve_read.proofs.LetterLines.{second_refused, pair_taken}
use Rattle.ve_read.proofs.building.Building.declare_pair.Goals as goal

pub returns-in_err-weight : goal.returns-in_err-weight
returns-in_err-weight c =
    let failed = err_from_is_err_and c.from_residual.result c.from_residual.ensures.1 in
    rw (failed.1, failed.2) c.in_err-weight.ensures.judged

pub returns-in_err-number : goal.returns-in_err-number
returns-in_err-number c =
    let failed = err_from_is_err_and c.from_residual-in_err-number.result c.from_residual-in_err-number.ensures.1 in
    let x = declared_of c.args.letter.now in
    let y = declared_of c.args.inverse.now in
    let P = c.args.self.now.presentation.presentation in
    let first = c.in_ok-weight.ensures.judged.1 in
    let fault = rw (c.text_of-name.ensures, c.text_of.ensures) at c.in_err-number.ensures.fault in
    rw (failed.1, failed.2)
    (second_refused (built_of c.args.self.now) x y (ap stage_of c.requires.stage) c.in_ok-weight.ensures.judged.2 c.in_ok-weight.ensures.judged.3 first _
    (pair_fault P x y _ (free_letter P x first).new fault))

pub returns-in_err-inverse_weight : goal.returns-in_err-inverse_weight
returns-in_err-inverse_weight c =
    let failed = err_from_is_err_and c.from_residual-in_err-inverse_weight.result c.from_residual-in_err-inverse_weight.ensures.1 in
    let x = declared_of c.args.letter.now in
    let y = declared_of c.args.inverse.now in
    let P = c.args.self.now.presentation.presentation in
    let second = rw (c.text_of-name.ensures, c.text_of.ensures) at c.in_ok-number.ensures.second in
    let told = c.in_err-inverse_weight.ensures in
    rw (failed.1, failed.2, told.0)
    (second_refused (built_of c.args.self.now) x y (ap stage_of c.requires.stage) c.in_ok-weight.ensures.judged.2 c.in_ok-weight.ensures.judged.3 c.in_ok-weight.ensures.judged.1 _
    (weight_fault (with_first P x) y second told.1))

pub weigh-requires-clause-letter : goal.weigh-requires-clause-letter
weigh-requires-clause-letter c =
    rw (c.in_ok-number.ensures.ok, c.in_ok-number.ensures.letter) (weight_at c.args.self.now.presentation c.judge_first.ensures.valid.presentation.one_weight_each (1 ∷ []))

pub weigh-requires-clause-version : goal.weigh-requires-clause-version
weigh-requires-clause-version c =
    rw c.in_ok-number.ensures.ok (version_or_one (built_of c.args.self.now) (declared_of c.args.letter.now) c.in_ok-weight.weight c.in_ok-weight.ensures.judged.2 c.in_ok-weight.ensures.judged.0)

pub weigh-requires-clause-positive : goal.weigh-requires-clause-positive
weigh-requires-clause-positive c = rw c.in_ok-weight.ensures.judged.0 (free_letter _ _ c.in_ok-weight.ensures.judged.1).positive

pub weigh-requires-clause-small : goal.weigh-requires-clause-small
weigh-requires-clause-small c = rw c.in_ok-weight.ensures.judged.0 (free_letter _ _ c.in_ok-weight.ensures.judged.1).small

pub weigh-requires-2-clause-letter : goal.weigh-requires-2-clause-letter
weigh-requires-2-clause-letter c =
    let d = c.args.self.now.presentation in
    let each = c.judge_first.ensures.valid.presentation.one_weight_each in
    rw (c.weigh.ensures.weight, c.in_ok-number.ensures.ok, c.in_ok-number.ensures.letter, first_weighed d each c.in_ok-weight.weight) (second_at d each c.in_ok-weight.weight)

pub returns : goal.returns
returns c =
    let x = declared_of c.args.letter.now in
    let y = declared_of c.args.inverse.now in
    let built = c.args.self.now in
    let d = built.presentation in
    let P = d.presentation in
    let n = length P.names in
    let second = rw (c.text_of-name.ensures, c.text_of.ensures) at c.in_ok-number.ensures.second in
    let weight = c.in_ok-inverse_weight.ensures in
    let is_weight : c.in_ok-inverse_weight.inverse_weight ≡ weight_of y = weight.0 in
    let positive : 0 < weight_of y = let p = weight.1 in omega arith in
    let small : weight_of y ≤ most_weight = let p = weight.2 in omega arith in
    let inverses = Some (n + 1) ∷ Some n ∷ [] in
    let added : c.add_pair.new.self ≡ with_letters d (x.called ∷ y.called ∷ []) inverses =
    c.in_ok-number.ensures.ok ∙ (λ i. with_letters d (c.text_of-name.ensures i ∷ c.text_of.ensures i ∷ []) inverses) in
    let first_next : c.weigh.new.presentation ≡ with_weight (with_letters d (x.called ∷ y.called ∷ []) inverses) n (weight_of x) =
    c.weigh.ensures.weight ∙ (λ i. with_weight (added i) (c.in_ok-number.ensures.letter i) (c.in_ok-weight.ensures.judged.0 i)) in
    let next : c.weigh-2.new.presentation ≡ with_weight (with_weight (with_letters d (x.called ∷ y.called ∷ []) inverses) n (weight_of x)) (n + 1) (weight_of y) =
    c.weigh-2.ensures.weight ∙ (λ i. with_weight (first_next i) (c.in_ok-number.ensures.letter i + 1) (is_weight i)) in
    pair_taken built c.requires.stage c.requires.kept c.judge_first.ensures.valid c.weigh-2.new.presentation c.weigh-2.ensures.open x c.in_ok-weight.ensures.judged.2
    c.in_ok-weight.ensures.judged.1 y c.in_ok-weight.ensures.judged.3 (declares (with_first P x) y second positive small) next
