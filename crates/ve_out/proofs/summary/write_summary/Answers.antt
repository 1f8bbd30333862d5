use Rattle.std.proofs.Common.{codes, ◌≡◌, arith}
use Rattle.ve_theory.specs.Answers.{dimension}
use Rattle.ve_formats.specs.SummaryText.{summary_lines, summary_text}
use Rattle.ve_matrix.specs.Answers.{answer_of}
use Rattle.ve_port.specs.Writing.{Writes-stopped}
use Rattle.ve_out.specs.Parts.{letters_text}
use Rattle.ve_out.proofs.LineByLine.{Stops-line, Stops-behind, Stops-lines, Writes-behind, Writes-behind_lines, Writes-last, Gains-number, Stops-number}
use Rattle.ve_out.proofs.AnswerParts.{basis_size}
use Rattle.ve_out.proofs.summary.write_summary.Goals as goal

pub returns-in_err-put : goal.returns-in_err-put
unfolding summary_text summary_lines
returns-in_err-put g c = Writes-stopped c.from_residual.ensures.1 (Stops-line _ _ c.in_err-put.ensures.stopped)

pub returns-in_err-write_numbered : goal.returns-in_err-write_numbered
unfolding summary_text summary_lines
returns-in_err-write_numbered g c =
    let A = c.args.answer.now in
    let size : c.len.result ≡ dimension (answer_of A).action = omega (arith, basis_size A, A.basis.ok.0, c.len.ensures) in
    Writes-stopped c.from_residual-in_err-write_numbered.ensures.1
    (Stops-behind _ _ c.in_ok-put.ensures.gained (Stops-line _ _ (Stops-number (codes "dimension") size c.in_err-write_numbered.ensures.stopped)))

pub returns-in_err-write_letters : goal.returns-in_err-write_letters
unfolding summary_text summary_lines letters_text
returns-in_err-write_letters g c =
    let A = c.args.answer.now in
    let size : c.len.result ≡ dimension (answer_of A).action = omega (arith, basis_size A, A.basis.ok.0, c.len.ensures) in
    Writes-stopped c.from_residual-in_err-write_letters.ensures.1
    (Stops-behind _ _ c.in_ok-put.ensures.gained
    (Stops-behind _ _ (Gains-number (codes "dimension") size c.in_ok-write_numbered.ensures.gained) (Stops-lines _ _ c.in_err-write_letters.ensures.stopped)))

pub returns : goal.returns
unfolding summary_text summary_lines letters_text
returns g c =
    let A = c.args.answer.now in
    let size : c.len.result ≡ dimension (answer_of A).action = omega (arith, basis_size A, A.basis.ok.0, c.len.ensures) in
    Writes-behind _ _ c.in_ok-put.ensures.gained
    (Writes-behind _ _ (Gains-number (codes "dimension") size c.in_ok-write_numbered.ensures.gained)
    (Writes-behind_lines _ _ c.in_ok-write_letters.ensures.gained (Writes-last _ c.put-2.ensures)))
