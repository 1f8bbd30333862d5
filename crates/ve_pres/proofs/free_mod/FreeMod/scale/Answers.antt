use Rattle.std.proofs.Common.{ℕ}
use Rattle.std.proofs.lemmas.Result.{IfOk-weaker}
use Rattle.ve_theory.specs.Elements.{Element, IsElementOf}
use Rattle.ve_pres.specs.Terms.{HasWordsBelow, pairs}
use Rattle.ve_pres.proofs.KeptElements.{from_empty, kept_view, sum_of_residues, summable_scaling}
use Rattle.ve_pres.proofs.WordBounds.{words_of_scaled}
use Rattle.ve_pres.proofs.free_mod.FreeMod.scale.Goals as goal

pub from_terms-requires : goal.from_terms-requires
from_terms-requires c =
    summable_scaling _ _ _ _ c.requires.residue (kept_view _ _ c.self.invariant c.self.view_is)
    (from_empty _ _ _ c.in_ok-push_scaled.ensures c.in_ok-terms.ensures.items)

pub returns-clause-multiple : goal.returns-clause-multiple
returns-clause-multiple c =
    IfOk-weaker _ _ _ (λ element sum. sum_of_residues _ element _ _ (from_empty _ _ _ c.in_ok-push_scaled.ensures c.in_ok-terms.ensures.items) sum) c.from_terms.ensures.sum

pub returns-clause-words : goal.returns-clause-words
returns-clause-words c =
    let P : Element → Type 0 = λ element. IsElementOf c.args.field.now element (pairs c.push_scaled.new.terms.items) in
    let Q : Element → Type 0 = λ element. (m n : ℕ) → HasWordsBelow m n c.args.self.now → HasWordsBelow m n element in
    IfOk-weaker _ P Q
    (λ element sum m n all. words_of_scaled _ _ m n element _ (sum_of_residues _ element _ _ (from_empty _ _ _ c.in_ok-push_scaled.ensures c.in_ok-terms.ensures.items) sum) all)
    c.from_terms.ensures.sum
