use Rattle.std.proofs.Common.{codes, ◌∙◌, ◌≡◌, arith}
use Rattle.ve_theory.specs.Answers.{dimension}
use Rattle.ve_formats.specs.AnswerText.{head_lines}
use Rattle.ve_matrix.specs.Answers.{answer_of}
use Rattle.ve_port.specs.Writing.{Writes-stopped}
use Rattle.ve_out.proofs.LineByLine.{Stops-line, Stops-behind, Writes-behind, Writes-last, Gains-number, Stops-number, Writes-number}
use Rattle.ve_out.proofs.AnswerParts.{basis_size}
use Rattle.ve_out.proofs.answer.write_head.Goals as goal

pub returns-in_err-put : goal.returns-in_err-put
unfolding head_lines
returns-in_err-put g c = Writes-stopped c.from_residual.ensures.1 (Stops-line _ _ c.in_err-put.ensures.stopped)

pub returns-in_err-write_numbered : goal.returns-in_err-write_numbered
unfolding head_lines
returns-in_err-write_numbered g c =
    let prime : c.from.result ≡ c.args.answer.now.field = c.from.ensures ∙ c.prime.ensures.prime in
    Writes-stopped c.from_residual-in_err-write_numbered.ensures.1
    (Stops-behind _ _ c.in_ok-put.ensures.gained (Stops-line _ _ (Stops-number (codes "prime") prime c.in_err-write_numbered.ensures.stopped)))

pub returns-in_err-write_names : goal.returns-in_err-write_names
unfolding head_lines
returns-in_err-write_names g c =
    let prime : c.from.result ≡ c.args.answer.now.field = c.from.ensures ∙ c.prime.ensures.prime in
    Writes-stopped c.from_residual-in_err-write_names.ensures.1
    (Stops-behind _ _ c.in_ok-put.ensures.gained
    (Stops-behind _ _ (Gains-number (codes "prime") prime c.in_ok-write_numbered.ensures.gained) (Stops-line _ _ c.in_err-write_names.ensures.stopped)))

pub returns-in_err-write_numbered-2 : goal.returns-in_err-write_numbered-2
unfolding head_lines
returns-in_err-write_numbered-2 g c =
    let prime : c.from.result ≡ c.args.answer.now.field = c.from.ensures ∙ c.prime.ensures.prime in
    Writes-stopped c.from_residual-in_err-write_numbered-2.ensures.1
    (Stops-behind _ _ c.in_ok-put.ensures.gained
    (Stops-behind _ _ (Gains-number (codes "prime") prime c.in_ok-write_numbered.ensures.gained)
    (Stops-behind _ _ c.in_ok-write_names.ensures.gained (Stops-line _ _ (Stops-number (codes "module") c.from-2.ensures c.in_err-write_numbered-2.ensures.stopped)))))

pub returns-in_err-write_numbered-3 : goal.returns-in_err-write_numbered-3
unfolding head_lines
returns-in_err-write_numbered-3 g c =
    let prime : c.from.result ≡ c.args.answer.now.field = c.from.ensures ∙ c.prime.ensures.prime in
    Writes-stopped c.from_residual-in_err-write_numbered-3.ensures.1
    (Stops-behind _ _ c.in_ok-put.ensures.gained
    (Stops-behind _ _ (Gains-number (codes "prime") prime c.in_ok-write_numbered.ensures.gained)
    (Stops-behind _ _ c.in_ok-write_names.ensures.gained
    (Stops-behind _ _ (Gains-number (codes "module") c.from-2.ensures c.in_ok-write_numbered-2.ensures.gained)
    (Stops-line _ _ (Stops-number (codes "closed") c.from-3.ensures c.in_err-write_numbered-3.ensures.stopped))))))

pub returns : goal.returns
unfolding head_lines
returns g c =
    let A = c.args.answer.now in
    let prime : c.from.result ≡ A.field = c.from.ensures ∙ c.prime.ensures.prime in
    let size : c.len.result ≡ dimension (answer_of A).action = omega (arith, basis_size A, A.basis.ok.0, c.len.ensures) in
    Writes-behind _ _ c.in_ok-put.ensures.gained
    (Writes-behind _ _ (Gains-number (codes "prime") prime c.in_ok-write_numbered.ensures.gained)
    (Writes-behind _ _ c.in_ok-write_names.ensures.gained
    (Writes-behind _ _ (Gains-number (codes "module") c.from-2.ensures c.in_ok-write_numbered-2.ensures.gained)
    (Writes-behind _ _ (Gains-number (codes "closed") c.from-3.ensures c.in_ok-write_numbered-3.ensures.gained)
    (Writes-last _ (Writes-number (codes "dimension") size c.write_numbered-4.ensures))))))
