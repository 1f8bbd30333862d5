use Rattle.std.proofs.Common.{◌≡◌, Some, ap, ◌∙◌}
use Rattle.std.specs.Prelude.{slice_get, option_copied}
use Rattle.ve_table.specs.Tables.{presented}
use Rattle.ve_machine.specs.Forwards.{stand_in}
use Rattle.ve_machine.proofs.Forwardings.{dead_stands}
use Rattle.ve_settle.proofs.Images.{forward_found, image_derived, image_reduced, image_row}
use Rattle.ve_settle.proofs.image.image_of.Goals as goal

pub add_times_letter-requires-clause-sum : goal.add_times_letter-requires-clause-sum
add_times_letter-requires-clause-sum c =
    let same : c.field-field.result.now ≡ (presented c.args.table.now).prime = c.field-field.ensures.field ∙ ap (λ d. d.presentation.prime) c.presentation.ensures.value in
    rw (c.in_ok-image.ensures, same) (c.is_sound.ensures.rows _ _ _ c.row_of.ensures).stands.row.0

pub add_times_letter-requires-clause-vector : goal.add_times_letter-requires-clause-vector
add_times_letter-requires-clause-vector c =
    let same : c.field-field.result.now ≡ (presented c.args.table.now).prime = c.field-field.ensures.field ∙ ap (λ d. d.presentation.prime) c.presentation.ensures.value in
    let dead_is : slice_get c.args.table.now.forwards c.args.dead ≡ Some (Some c.unwrap-forward.result.now) = c.forward.ensures ∙ ap (λ o. Some (option_copied o)) c.unwrap-forward.ensures in
    rw same (c.is_sound.ensures.forwards _ _ dead_is).stands.row.0

pub add_times_letter-requires-clause-found : goal.add_times_letter-requires-clause-found
add_times_letter-requires-clause-found c =
    let same : c.field-field.result.now ≡ (presented c.args.table.now).prime = c.field-field.ensures.field ∙ ap (λ d. d.presentation.prime) c.presentation.ensures.value in
    let sound = c.is_sound.ensures in
    let order = c.words_are_ordered.ensures (presented c.args.table.now) sound.valid.presentation in
    let dead_is : slice_get c.args.table.now.forwards c.args.dead ≡ Some (Some c.unwrap-forward.result.now) = c.forward.ensures ∙ ap (λ o. Some (option_copied o)) c.unwrap-forward.ensures in
    let due = (sound.due c.args.dead c.args.letter).0 c.requires.row in
    rw same (forward_found c.args.table.now sound order c.args.dead c.args.letter c.unwrap-forward.result.now due (sound.forwards _ _ dead_is))

pub add_times_letter-requires-clause-rows : goal.add_times_letter-requires-clause-rows
add_times_letter-requires-clause-rows c =
    let same : c.field-field.result.now ≡ (presented c.args.table.now).prime = c.field-field.ensures.field ∙ ap (λ d. d.presentation.prime) c.presentation.ensures.value in
    λ b x v is. rw same (c.is_sound.ensures.rows b x v is).stands.row.0

pub returns-clause-difference : goal.returns-clause-difference
returns-clause-difference c =
    let same : c.field-field.result.now ≡ (presented c.args.table.now).prime = c.field-field.ensures.field ∙ ap (λ d. d.presentation.prime) c.presentation.ensures.value in
    let sound = c.is_sound.ensures in
    let order = c.words_are_ordered.ensures (presented c.args.table.now) sound.valid.presentation in
    let dead_is : slice_get c.args.table.now.forwards c.args.dead ≡ Some (Some c.unwrap-forward.result.now) = c.forward.ensures ∙ ap (λ o. Some (option_copied o)) c.unwrap-forward.ensures in
    let stands : stand_in c.args.table.now.forwards c.args.dead ≡ c.unwrap-forward.result.now = dead_stands c.args.table.now.forwards c.args.dead _ dead_is in
    let due = (sound.due c.args.dead c.args.letter).0 c.requires.row in
    image_reduced c.args.table.now sound order c.reach_adds_up.ensures c.args.dead c.args.letter due c.row_of.result.now c.unwrap-forward.result.now c.row_of.ensures (sound.forwards _ _ dead_is) stands
    _ _ (rw same at c.neg.ensures.negative) (rw (c.in_ok-image.ensures, same) at c.in_ok-add_times_letter.ensures)

pub returns-clause-row : goal.returns-clause-row
returns-clause-row c =
    let same : c.field-field.result.now ≡ (presented c.args.table.now).prime = c.field-field.ensures.field ∙ ap (λ d. d.presentation.prime) c.presentation.ensures.value in
    let sound = c.is_sound.ensures in
    let order = c.words_are_ordered.ensures (presented c.args.table.now) sound.valid.presentation in
    let dead_is : slice_get c.args.table.now.forwards c.args.dead ≡ Some (Some c.unwrap-forward.result.now) = c.forward.ensures ∙ ap (λ o. Some (option_copied o)) c.unwrap-forward.ensures in
    let stands : stand_in c.args.table.now.forwards c.args.dead ≡ c.unwrap-forward.result.now = dead_stands c.args.table.now.forwards c.args.dead _ dead_is in
    let due = (sound.due c.args.dead c.args.letter).0 c.requires.row in
    let image =
    image_reduced c.args.table.now sound order c.reach_adds_up.ensures c.args.dead c.args.letter due c.row_of.result.now c.unwrap-forward.result.now c.row_of.ensures (sound.forwards _ _ dead_is) stands
    _ _ (rw same at c.neg.ensures.negative) (rw (c.in_ok-image.ensures, same) at c.in_ok-add_times_letter.ensures) in
    image_row c.args.table.now sound order c.reach_adds_up.ensures c.args.dead c.args.letter due c.row_of.result.now c.unwrap-forward.result.now c.row_of.ensures (sound.forwards _ _ dead_is) stands _ image

pub returns-clause-derived : goal.returns-clause-derived
returns-clause-derived c =
    let same : c.field-field.result.now ≡ (presented c.args.table.now).prime = c.field-field.ensures.field ∙ ap (λ d. d.presentation.prime) c.presentation.ensures.value in
    let sound = c.is_sound.ensures in
    let order = c.words_are_ordered.ensures (presented c.args.table.now) sound.valid.presentation in
    let dead_is : slice_get c.args.table.now.forwards c.args.dead ≡ Some (Some c.unwrap-forward.result.now) = c.forward.ensures ∙ ap (λ o. Some (option_copied o)) c.unwrap-forward.ensures in
    let stands : stand_in c.args.table.now.forwards c.args.dead ≡ c.unwrap-forward.result.now = dead_stands c.args.table.now.forwards c.args.dead _ dead_is in
    let due = (sound.due c.args.dead c.args.letter).0 c.requires.row in
    let image =
    image_reduced c.args.table.now sound order c.reach_adds_up.ensures c.args.dead c.args.letter due c.row_of.result.now c.unwrap-forward.result.now c.row_of.ensures (sound.forwards _ _ dead_is) stands
    _ _ (rw same at c.neg.ensures.negative) (rw (c.in_ok-image.ensures, same) at c.in_ok-add_times_letter.ensures) in
    image_derived c.args.table.now sound order c.reach_adds_up.ensures c.args.dead c.args.letter due c.row_of.result.now c.unwrap-forward.result.now c.row_of.ensures (sound.forwards _ _ dead_is) stands _ image
