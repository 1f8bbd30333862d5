use Rattle.ve_formats.specs.AnswerText.{answer_text, answer_lines, head_lines, basis_lines, image_lines, matrix_lines}
use Rattle.ve_port.specs.Writing.{Writes-stopped, Stops-memory}
use Rattle.ve_out.proofs.LineByLine.{Stops-lines, Stops-behind_lines, Writes-behind_lines, Writes-last}
use Rattle.ve_out.proofs.answer.write_answer.Goals as goal

pub returns-in_err-write_head : goal.returns-in_err-write_head
unfolding answer_text answer_lines
returns-in_err-write_head g c = Writes-stopped c.from_residual-in_err-write_head.ensures.1 (Stops-lines _ _ c.in_err-write_head.ensures.stopped)

pub returns-in_err-write_basis : goal.returns-in_err-write_basis
unfolding answer_text answer_lines
returns-in_err-write_basis g c =
    Writes-stopped c.from_residual-in_err-write_basis.ensures.1 (Stops-behind_lines _ _ c.in_ok-write_head.ensures.gained (Stops-lines _ _ c.in_err-write_basis.ensures.stopped))

pub returns-in_err-write_images : goal.returns-in_err-write_images
unfolding answer_text answer_lines
returns-in_err-write_images g c =
    Writes-stopped c.from_residual-in_err-write_images.ensures.1
    (Stops-behind_lines _ _ c.in_ok-write_head.ensures.gained (Stops-behind_lines _ _ c.in_ok-write_basis.ensures.gained (Stops-lines _ _ c.in_err-write_images.ensures.stopped)))

pub returns-in_err-write_matrices : goal.returns-in_err-write_matrices
unfolding answer_text answer_lines
returns-in_err-write_matrices g c =
    Writes-stopped c.from_residual-in_err-write_matrices.ensures.1
    (Stops-behind_lines _ _ c.in_ok-write_head.ensures.gained
    (Stops-behind_lines _ _ c.in_ok-write_basis.ensures.gained (Stops-behind_lines _ _ c.in_ok-write_images.ensures.gained (Stops-lines _ _ c.in_err-write_matrices.ensures.stopped))))

pub returns : goal.returns
unfolding answer_text answer_lines
returns g c =
    Writes-behind_lines _ _ c.in_ok-write_head.ensures.gained
    (Writes-behind_lines _ _ c.in_ok-write_basis.ensures.gained
    (Writes-behind_lines _ _ c.in_ok-write_images.ensures.gained (Writes-behind_lines _ _ c.in_ok-write_matrices.ensures.gained (Writes-last _ c.put.ensures))))
