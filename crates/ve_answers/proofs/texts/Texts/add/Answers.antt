use Rattle.std.proofs.Common.{◌↔◌, ◌++◌, ◌∷◌, [], Contains, IsTrue, subst, ap, ◌∙◌}
use Rattle.ve_answers.proofs.TextPlaces.{new_text, text_added, texts_in}
use Rattle.ve_answers.proofs.texts.Texts.add.Goals as goal

pub returns-clause-new : goal.returns-clause-new
returns-clause-new c =
    subst (λ texts. IsTrue c.in_ok-is_new.is_new ↔ (¬ Contains texts c.args.text.now)) c.self.view_is
    (new_text c.args.text.now c.self.inside.list.keys c.in_ok-is_new.is_new c.in_ok-is_new.ensures.added)

pub returns-clause-added : goal.returns-clause-added
returns-clause-added c = λ new.
    let fresh : ¬ Contains (texts_in c.self.inside.list.keys) c.args.text.now = (new_text c.args.text.now c.self.inside.list.keys c.in_ok-is_new.is_new c.in_ok-is_new.ensures.added).0 new in
    ap texts_in c.in_ok-is_new.ensures.keys ∙ text_added c.self.inside.list.keys c.args.text fresh ∙ ap (λ texts. texts ++ c.args.text.now ∷ []) c.self.view_is
