use Rattle.std.proofs.Common.{subst}
use Rattle.std.proofs.lemmas.Result.{err_from_is_err_and}
use Rattle.ve_formats.specs.Lines.{lines_of}
use Rattle.ve_formats.specs.AnswerReading.{FillAll, answer_in, blank_draft, head_places}
use Rattle.ve_answers.proofs.WholeText.{whole, whole_refused, basis_refused, images_refused, matrices_refused, end_refused, behind_end_refused, all_filled, is_value}
use Rattle.ve_answers.proofs.read.read_answer.Goals as goal

pub returns-in_err-head : goal.returns-in_err-head
returns-in_err-head c =
    let failed = err_from_is_err_and c.from_residual.result c.from_residual.ensures.1 in
    rw (failed.1, failed.2) (whole_refused _ c.new-lines.result c.in_err-head.field-0.0 c.new-lines.ensures.rest c.new-lines.ensures.taken c.in_err-head.ensures.err)

pub returns-in_err-basis : goal.returns-in_err-basis
returns-in_err-basis c =
    let failed = err_from_is_err_and c.from_residual-in_err-basis.result c.from_residual-in_err-basis.ensures.1 in
    let refusal = c.in_err-basis.field-0.0 in
    let refused = basis_refused c.in_ok-head.head c.new-lines.result _ c.in_ok-head.ensures.ok refusal c.in_err-basis.ensures.err in
    rw (failed.1, failed.2) (whole_refused _ c.new-lines.result refusal c.new-lines.ensures.rest c.new-lines.ensures.taken refused)

pub returns-in_err-images : goal.returns-in_err-images
returns-in_err-images c =
    let failed = err_from_is_err_and c.from_residual-in_err-images.result c.from_residual-in_err-images.ensures.1 in
    let refusal = c.in_err-images.field-0.0 in
    let refused =
    images_refused c.in_ok-head.head c.new-lines.result _ c.in_ok-head.ensures.ok _ c.in_ok-basis.basis.items c.in_ok-basis.ensures.ok refusal (rw c.from.ensures at c.in_err-images.ensures.err) in
    rw (failed.1, failed.2) (whole_refused _ c.new-lines.result refusal c.new-lines.ensures.rest c.new-lines.ensures.taken refused)

pub returns-in_err-matrices : goal.returns-in_err-matrices
returns-in_err-matrices c =
    let failed = err_from_is_err_and c.from_residual-in_err-matrices.result c.from_residual-in_err-matrices.ensures.1 in
    let refusal = c.in_err-matrices.field-0.0 in
    let refused =
    matrices_refused c.in_ok-head.head c.new-lines.result _ c.in_ok-head.ensures.ok _ c.in_ok-basis.basis.items c.in_ok-basis.ensures.ok
    _ c.in_ok-images.images.items (rw c.from.ensures at c.in_ok-images.ensures.ok) refusal c.in_err-matrices.ensures.err in
    rw (failed.1, failed.2) (whole_refused _ c.new-lines.result refusal c.new-lines.ensures.rest c.new-lines.ensures.taken refused)

pub returns-in_err-take : goal.returns-in_err-take
returns-in_err-take c =
    let failed = err_from_is_err_and c.from_residual-in_err-take.result c.from_residual-in_err-take.ensures.1 in
    let refusal = c.in_err-take.field-0.0 in
    let refused =
    end_refused c.in_ok-head.head c.new-lines.result _ c.in_ok-head.ensures.ok _ c.in_ok-basis.basis.items c.in_ok-basis.ensures.ok
    _ c.in_ok-images.images.items (rw c.from.ensures at c.in_ok-images.ensures.ok) _ c.in_ok-matrices.matrices.items c.in_ok-matrices.ensures.ok c.in_err-take.ensures.err in
    rw (failed.1, failed.2) (whole_refused _ c.new-lines.result refusal c.new-lines.ensures.rest c.new-lines.ensures.taken refused)

pub returns-in_err-finish : goal.returns-in_err-finish
returns-in_err-finish c =
    let failed = err_from_is_err_and c.from_residual-in_err-finish.result c.from_residual-in_err-finish.ensures.1 in
    let refusal = c.in_err-finish.field-0.0 in
    let refused =
    behind_end_refused c.in_ok-head.head c.new-lines.result _ c.in_ok-head.ensures.ok _ c.in_ok-basis.basis.items c.in_ok-basis.ensures.ok
    _ c.in_ok-images.images.items (rw c.from.ensures at c.in_ok-images.ensures.ok) _ c.in_ok-matrices.matrices.items c.in_ok-matrices.ensures.ok
    _ c.in_ok-take.ensures.ok refusal c.in_err-finish.ensures.err in
    rw (failed.1, failed.2) (whole_refused _ c.new-lines.result refusal c.new-lines.ensures.rest c.new-lines.ensures.taken refused)

pub returns : goal.returns
unfolding answer_in
returns c =
    let filled =
    all_filled c.in_ok-head.head c.new-lines.result _ c.in_ok-head.ensures.ok _ c.in_ok-basis.basis.items c.in_ok-basis.ensures.ok
    _ c.in_ok-images.images.items (rw c.from.ensures at c.in_ok-images.ensures.ok) _ c.in_ok-matrices.matrices.items c.in_ok-matrices.ensures.ok
    _ c.in_ok-take.ensures.ok c.in_ok-finish.ensures.ok in
    let last = whole c.in_ok-head.head c.in_ok-basis.basis.items c.in_ok-images.images.items c.in_ok-matrices.matrices.items in
    let shows = c.answers_are_read_once.ensures.filled c.args.text.now last (subst (λ t. FillAll blank_draft head_places (lines_of t) last) c.new-lines.ensures.rest filled) in
    (shows, is_value _ c.args.text.now shows c.in_ok-basis.ensures.origins)
