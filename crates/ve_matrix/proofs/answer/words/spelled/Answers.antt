use Rattle.std.proofs.Common.{arith, ◌≡◌, [], sym, ap, ◌∙◌}
use Rattle.ve_matrix.specs.BasisWords.{behind}
use Rattle.ve_matrix.proofs.BasisWords.{behind-push, behind-none}
use Rattle.ve_matrix.proofs.answer.words.spelled.Goals as goal

pub loop-letter-preserved : goal.loop-letter-preserved
loop-letter-preserved c =
    ap (λ w. behind w c.pop.new.self.items) c.in_ok-push.ensures.ok
    ∙ (sym (behind-push c.loop-letter.word c.pop.new.self.items c.in-Some.letter) ∙ (ap (behind c.loop-letter.word) (sym c.in-Some.ensures.items) ∙ c.loop-letter.invariant))

pub returns : goal.returns
returns c =
    let none : c.loop-letter.letters.items ≡ [] = grind (arith, c.in_default.ensures) in
    sym (behind-none c.loop-letter.word) ∙ (ap (behind c.loop-letter.word) (sym none) ∙ c.loop-letter.invariant)
