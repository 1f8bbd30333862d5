use Rattle.std.proofs.Common.{◌≡◌, Contains, MatchOption, Some, slice_get, subst}
use Rattle.ve_answers.proofs.TextPlaces.{found_text}
use Rattle.ve_answers.proofs.texts.Texts.find.Goals as goal

pub returns : goal.returns
returns c =
    subst (λ texts. MatchOption c.get_index_of.result (¬ Contains texts c.args.text.now) (λ place. slice_get texts place ≡ Some c.args.text.now)) c.self.view_is
    (found_text c.args.text.now c.self.inside.list.keys c.get_index_of.result c.get_index_of.ensures.index)
