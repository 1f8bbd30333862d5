use Rattle.std.proofs.Common.{◌≡◌, Some, slice_get, sym, ap, ◌∙◌, arith}
use Rattle.std.proofs.lemmas.Option.{slice_get-get_or}
use Rattle.std.proofs.lemmas.Result.{IfOk-weaker}
use Rattle.ve_theory.specs.Answers.{basis_word}
use Rattle.ve_table.specs.declared.origin.Origin.TheVariants.{Root, Child}
use Rattle.ve_matrix.specs.Answers.{answer_of}
use Rattle.ve_matrix.specs.BasisWords.{behind}
use Rattle.ve_matrix.proofs.BasisWords.{behind-push, behind-none, root_word, child_word}
use Rattle.ve_matrix.proofs.answer.Answer.basis_word.Goals as goal

pub loop-root-init : goal.loop-root-init
loop-root-init c =
    let word = basis_word (answer_of c.args.self.now).action c.args.place in
    record { within = c.requires.place; word = ap (behind word) c.new-letters.ensures.items ∙ behind-none word }

pub returns-in-Root : goal.returns-in-Root
returns-in-Root c =
    let origins = c.args.self.now.basis.items in
    let found : slice_get origins c.loop-root.at ≡ Some (Root c.in-Root.root) =
    slice_get-get_or origins c.loop-root.at c.index.result.now c.loop-root.invariant.within ∙ ap Some (sym c.index.ensures ∙ c.in-Root.is) in
    IfOk-weaker c.spelled.result _ _
    (λ w is. is ∙ (ap (λ v. behind v c.loop-root.letters.items) (sym (root_word origins c.loop-root.at c.in-Root.root c.requires.answer.origins found)) ∙ c.loop-root.invariant.word))
    c.spelled.ensures

pub loop-root-smaller : goal.loop-root-smaller
loop-root-smaller c =
    let origins = c.args.self.now.basis.items in
    let found : slice_get origins c.loop-root.at ≡ Some (Child c.in-Child.parent c.in-Child.letter) =
    slice_get-get_or origins c.loop-root.at c.index.result.now c.loop-root.invariant.within ∙ ap Some (sym c.index.ensures ∙ c.in-Child.is) in
    c.requires.answer.origins c.loop-root.at (Child c.in-Child.parent c.in-Child.letter) found

pub loop-root-preserved : goal.loop-root-preserved
loop-root-preserved c =
    let origins = c.args.self.now.basis.items in
    let parent = basis_word (answer_of c.args.self.now).action c.in-Child.parent in
    let found : slice_get origins c.loop-root.at ≡ Some (Child c.in-Child.parent c.in-Child.letter) =
    slice_get-get_or origins c.loop-root.at c.index.result.now c.loop-root.invariant.within ∙ ap Some (sym c.index.ensures ∙ c.in-Child.is) in
    record {
      within = omega (arith, c.requires.answer.origins c.loop-root.at (Child c.in-Child.parent c.in-Child.letter) found, c.loop-root.invariant.within);
      word =
          ap (behind parent) c.in_ok-push-in-Child.ensures.items
          ∙ (behind-push parent c.loop-root.letters.items c.in-Child.letter
          ∙ (ap (λ v. behind v c.loop-root.letters.items) (sym (child_word origins c.loop-root.at c.in-Child.parent c.in-Child.letter c.requires.answer.origins found))
          ∙ c.loop-root.invariant.word));
    }
