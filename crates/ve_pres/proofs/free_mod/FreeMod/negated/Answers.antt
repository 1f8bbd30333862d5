use Rattle.std.proofs.Common.{◌≡◌, ap, ◌∙◌}
use Rattle.std.specs.Vec.{with_items}
use Rattle.std.proofs.lemmas.List.{with_items_is}
use Rattle.ve_pres.specs.Terms.{negatives, pairs}
use Rattle.ve_pres.proofs.KeptElements.{kept_view}
use Rattle.ve_pres.proofs.Negatives.{negative_kept, negative_of, residues_kept}
use Rattle.ve_pres.proofs.WordBounds.{words_of_scaled}
use Rattle.ve_pres.proofs.free_mod.FreeMod.negated.Goals as goal

pub negate-requires : goal.negate-requires
negate-requires c = residues_kept _ _ _ _ c.self.view_is c.as_mut_slice.ensures.value c.requires.residues

written : (c : goal.After-terms-2-1) → pairs (with_items c.self.inside.terms c.negate.new.terms).items ≡ negatives c.args.field.now c.args.self
written c =
    ap pairs (with_items_is c.self.inside.terms c.negate.new.terms (c.negate.auto.terms ∙ c.as_mut_slice.ensures.len))
    ∙ (c.negate.ensures ∙ ap (negatives c.args.field.now) (ap pairs c.as_mut_slice.ensures.value ∙ c.self.view_is))

pub invariant_of-result : goal.invariant_of-result
invariant_of-result c = negative_kept _ _ _ (written c) c.requires.residues (kept_view _ _ c.self.invariant c.self.view_is)

pub returns-clause-negative : goal.returns-clause-negative
returns-clause-negative c = negative_of _ _ _ (written c) c.requires.residues

pub returns-clause-words : goal.returns-clause-words
returns-clause-words c m n all = words_of_scaled _ _ m n _ _ (negative_of _ _ _ (written c) c.requires.residues) all
