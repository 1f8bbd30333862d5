use Rattle.std.proofs.Common.{◌≡◌, ◌<◌, length, ap, subst, sym, ◌∙◌, ℕ, List, Option, MatchOption, None}
use Rattle.std.proofs.lemmas.List.Elements.{All-drop}
use Rattle.ve_theory.specs.Presentations.{HasLetters}
use Rattle.ve_theory.specs.Elements.{inverse_of_letters}
use Rattle.ve_theory.specs.Words.{Word}
use Rattle.ve_pres.specs.Halves.{IsInverseProduct}
use Rattle.ve_pres.proofs.HalfSteps.{half_words}
use Rattle.ve_pres.proofs.presentation.Presentation.half_words.Goals as goal

pub times_inverse-requires : goal.times_inverse-requires
times_inverse-requires c =
    let P : List ℕ → Type 0 = λ u. HasLetters c.args.self.now.presentation u in
    subst P (sym c.split_at.ensures.back) (All-drop (λ (x : ℕ). x < length c.args.self.now.presentation.names) _ c.args.longer.now c.requires.letters)

pub returns-in_default : goal.returns-in_default
returns-in_default c =
    let Q : Option Word → Type 0 = λ o. MatchOption o (inverse_of_letters c.args.self.now.presentation.inverses c.split_at.result.1.now ≡ None) (IsInverseProduct c.args.self.now.presentation c.in_ok-right.right c.split_at.result.1.now) in
    ap (inverse_of_letters c.args.self.now.presentation.inverses) (sym c.split_at.ensures.back) ∙ subst Q c.in_default.is c.in_ok-right-2.ensures

pub returns : goal.returns
returns c =
    let Q : Option Word → Type 0 = λ o. MatchOption o (inverse_of_letters c.args.self.now.presentation.inverses c.split_at.result.1.now ≡ None) (IsInverseProduct c.args.self.now.presentation c.in_ok-right.right c.split_at.result.1.now) in
    half_words _ _ _ c.split_at.result.0.now c.split_at.result.1.now _ c.in_ok-right.right _ c.in-Some.right c.root-start.ensures c.in_ok-right.ensures c.split_at.ensures.front c.split_at.ensures.back c.in_ok-left.ensures
    (subst Q c.in-Some.is c.in_ok-right-2.ensures)
