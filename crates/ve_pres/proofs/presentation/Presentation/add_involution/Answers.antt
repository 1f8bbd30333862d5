use Rattle.std.proofs.Common.{◌∙◌, ◌-◌, ◌++◌, [], ◌∷◌, ap}
use Rattle.ve_pres.specs.Drafts.{Draft}
use Rattle.ve_pres.proofs.LetterLists.{involution_letters}
use Rattle.ve_pres.proofs.ValidPresentations.{letters_of_built}
use Rattle.ve_pres.proofs.presentation.Presentation.add_involution.Goals as goal

pub set_letters-requires-clause-letters : goal.set_letters-requires-clause-letters
set_letters-requires-clause-letters c =
    involution_letters _ _ _ c.in-Ok.letters c.push.new.self c.push_relator.new.self _
    (letters_of_built c.self.inside _ c.in-Ok.letters c.self.invariant c.self.view_is c.in-Ok.ensures)
    c.count-letter.ensures.count
    (record {
      names = c.in_ok-push.ensures.names;
      inverses = c.in_ok-push.ensures.inverses;
      weights = c.in_ok-push.ensures.weights;
      relators = c.in_ok-push.ensures.relators;
      letters = c.in_ok-push.ensures.letters;
    })
    (record {
      relators = c.in_ok-push_relator.ensures.relators ∙ ap (λ (d : Draft). c.push.new.self.relators.items ++ ((c.count-letter.result ∷ c.count-letter.result ∷ [], 1) ∷ ([], d.presentation.prime - 1) ∷ []) ∷ []) c.self.view_is;
      names = c.in_ok-push_relator.ensures.names;
      inverses = c.in_ok-push_relator.ensures.inverses;
      weights = c.in_ok-push_relator.ensures.weights;
    })
