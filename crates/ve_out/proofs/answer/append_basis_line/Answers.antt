use Rattle.std.proofs.Common.{◌<◌, ◌≡◌, ◌++◌, codes, All, length, arith, subst, ap, sym, ◌∙◌, get_or}
use Rattle.std.proofs.lemmas.List.Elements.{All-get_or}
use Rattle.ve_theory.specs.Words.{Word, generator, letters, start}
use Rattle.ve_theory.specs.Answers.{dimension}
use Rattle.ve_formats.specs.WordText.{word_text}
use Rattle.ve_table.specs.Books.{words_of}
use Rattle.ve_matrix.specs.Answers.{answer_of}
use Rattle.ve_out.proofs.AnswerParts.{basis_size}
use Rattle.ve_out.proofs.answer.append_basis_line.Goals as goal

pub write_word-requires : goal.write_word-requires
write_word-requires c =
    let A = answer_of c.args.answer.now in
    let inside : c.args.place < dimension A.action = omega (arith, basis_size c.args.answer.now, c.requires.place) in
    subst (λ (w : Word). All (λ x. x < length A.names) (letters w)) (sym (c.in_ok-word.ensures ∙ ap (λ os. get_or (words_of os) c.args.place (generator 0)) c.deref.ensures.value))
    (All-get_or (λ (w : Word). (start w < A.generators) × All (λ x. x < length A.names) (letters w)) A.action.basis c.args.place (generator 0) inside c.requires.answer.form.words).1
