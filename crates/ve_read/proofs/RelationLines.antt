-- Lines of relations.
use Rattle.std.proofs.Common.{◌≡◌, ◌+◌, ◌<◌, inl, inr, Bool, true, false, [], ◌∷◌, Some, Ok, Err, refl, sym, ap, ◌∙◌, subst, arith}
use Rattle.std.specs.Prelude.{MatchBool}
use Rattle.std.proofs.lemmas.Option.{slice_get_within}
use Rattle.ve_theory.specs.Elements.{AlgebraElement, Element, IsAlgebraElementOf, halved}
use Rattle.ve_theory.specs.Presentations.{Presentation}
use Rattle.ve_theory.specs.Validity.{IsValid, most_relations, most_cells}
use Rattle.ve_formats.specs.Causes as why
use Rattle.ve_formats.specs.Causes.{Cause, beyond}
use Rattle.ve_formats.specs.Expressions as algebra
use Rattle.ve_formats.specs.Expressions.{Expression}
use Rattle.ve_formats.specs.ModuleExpressions as modules
use Rattle.ve_formats.specs.ModuleExpressions.{ModuleExpression}
use Rattle.ve_formats.specs.Values.{IsReadable, HasValue}
use Rattle.ve_formats.specs.ModuleValues.{HasModuleValue}
use Rattle.ve_formats.specs.PresentationLines as lines
use Rattle.ve_formats.specs.PresentationLines.{Draft, Works, relation, submodule, among_relations, IsAmongRelations, takes_relation, refuses_count, refuses_value, refuses_room, takes_submodule, refuses_submodule_count, refuses_submodule_value, refuses_submodule_room, with_item, with_relation, with_submodule}
use Rattle.ve_pres.specs.Drafts as presentations
use Rattle.ve_pres.specs.Drafts.{TakesRelation, TakesSubmoduleRelation, IsRelationFault, IsSubmoduleRelationFault, with_relator, with_submodule_relation}
use Rattle.ve_pres.specs.declared.limit.Limit.TheVariants.{Letters, Roots, Relations, Terms, Length, Cells}
use Rattle.ve_pres.specs.declared.limit.PresFault.{PresFault}
use Rattle.ve_pres.specs.declared.limit.PresFault.TheVariants.{Limit as Exceeds, Memory}
use Rattle.ve_read.specs.declared.building.Building.{Building}
use Rattle.ve_read.specs.declared.building.Stage.TheVariants as stages
use Rattle.ve_read.specs.declared.draft.Draft.TheVariants.{Built}
use Rattle.ve_read.specs.Refusals.{of_pres_fault}
use Rattle.ve_read.specs.Drafts.{IsBuilding, IsTaken, IsNotTaken, built_of}

-- a valid presentation is one in which expressions have values
pub valid_readable : (P : Presentation) → IsValid P → IsReadable P
valid_readable P valid = record {
  field = valid.presentation.field;
  distinct = valid.distinct;
  generators = valid.generators.1;
  inverses = λ x y h. let within = slice_get_within P.inverses y (Some x) (valid.presentation.inverses x y h) in let each = valid.presentation.one_inverse_each in omega arith;
}

-- the relator of a value, by whether the presentation is balanced
relator_is : (P : Presentation) (v r : AlgebraElement) → presentations.IsRelatorOf P v r → lines.IsRelatorOf P v r
relator_is P v r h = by_balance P.is_balanced refl h
  where
    by_balance : (b : Bool) → P.is_balanced ≡ b → MatchBool b (IsAlgebraElementOf P.prime r (halved P.inverses v)) (r ≡ v) → lines.IsRelatorOf P v r
    by_balance true is half = inl (is, half)
    by_balance false is same = inr (is, same)

module _ (built : Building) (stage : IsAmongRelations (built_of built).stage) (kept : IsBuilding built) (room : built.counted < most_relations) where
  module _ (d e : Expression) (v : AlgebraElement) (value : HasValue built.presentation.presentation (algebra.difference d e) (Ok v)) where
    pub relation_refused : (fault : PresFault) → IsRelationFault built.presentation v fault → IsNotTaken (built_of built) (relation d e) (of_pres_fault fault)
    relation_refused (Exceeds Letters) h = absurd h
    relation_refused (Exceeds Roots) h = absurd h
    relation_refused (Exceeds Relations) h = absurd (let same = kept.counted in omega arith)
    relation_refused (Exceeds (Terms count)) h = absurd h
    relation_refused (Exceeds (Length count)) h = absurd h
    relation_refused (Exceeds (Cells count)) h =
        let many = subst (λ n. most_cells < n) h.counted h.many in
        inr (
          stage,
          subst (λ n. Works (built_of built) (relation d e) (Err (beyond (why.cells n)))) (sym h.counted)
              (refuses_room d e v h.relator room value (relator_is built.presentation.presentation v h.relator h.is_relator) many),
        )
    relation_refused Memory h = inr (stage, refl)

    draft_with : (r : AlgebraElement) → (with_relator built.presentation r).presentation ≡ record built.presentation.presentation { relations = with_item built.presentation.presentation.relations r }
    unfolding with_item
    draft_with [] = refl
    draft_with (t ∷ r) = refl

    counted_with : (r : AlgebraElement) → (with_relator built.presentation r).counted ≡ built.presentation.counted + 1
    counted_with [] = refl
    counted_with (t ∷ r) = refl

    pub relation_taken : (next : presentations.Draft) → TakesRelation built.presentation v next
        → IsTaken (built_of built) (relation d e) (Built (record { stage = stages.Relations; presentation = next; counted = built.counted + 1 }))
    relation_taken next takes =
        let r = takes.relator in
        let P = built.presentation.presentation in
        let same = ap (λ (d : presentations.Draft). d.presentation) takes.taken ∙ draft_with r in
        record {
          stands = stage;
          works = subst (λ d'. Works (built_of built) (relation d e) (Ok d')) (sym (λ i. record { stage = among_relations; presentation = same i; counted = built.counted + 1 }))
              (takes_relation d e v r room value (relator_is P v r takes.is_relator) takes.cells);
          kept = record { counted = ap (λ (d : presentations.Draft). d.counted) takes.taken ∙ counted_with r ∙ ap (λ n. n + 1) kept.counted; open_ = tt };
        }

  module _ (d e : ModuleExpression) (q : Element) (value : HasModuleValue built.presentation.presentation (modules.difference d e) (Ok q)) where
    pub submodule_refused : (fault : PresFault) → IsSubmoduleRelationFault built.presentation q fault → IsNotTaken (built_of built) (submodule d e) (of_pres_fault fault)
    submodule_refused (Exceeds Letters) h = absurd h
    submodule_refused (Exceeds Roots) h = absurd h
    submodule_refused (Exceeds Relations) h = absurd (let same = kept.counted in omega arith)
    submodule_refused (Exceeds (Terms count)) h = absurd h
    submodule_refused (Exceeds (Length count)) h = absurd h
    submodule_refused (Exceeds (Cells count)) h =
        inr (
          stage,
          subst (λ n. Works (built_of built) (submodule d e) (Err (beyond (why.cells n)))) (sym h.1)
              (refuses_submodule_room d e q room value (subst (λ n. most_cells < n) h.1 h.2)),
        )
    submodule_refused Memory h = inr (stage, refl)

    submodule_with : (v : Element) → (with_submodule_relation built.presentation v).presentation ≡ record built.presentation.presentation { submodule = with_item built.presentation.presentation.submodule v }
    unfolding with_item
    submodule_with [] = refl
    submodule_with (t ∷ v) = refl

    submodule_counted : (v : Element) → (with_submodule_relation built.presentation v).counted ≡ built.presentation.counted + 1
    submodule_counted [] = refl
    submodule_counted (t ∷ v) = refl

    pub submodule_taken : (next : presentations.Draft) → TakesSubmoduleRelation built.presentation q next
        → IsTaken (built_of built) (submodule d e) (Built (record { stage = stages.Relations; presentation = next; counted = built.counted + 1 }))
    submodule_taken next takes =
        let same = ap (λ (d : presentations.Draft). d.presentation) takes.taken ∙ submodule_with q in
        record {
          stands = stage;
          works = subst (λ d'. Works (built_of built) (submodule d e) (Ok d')) (sym (λ i. record { stage = among_relations; presentation = same i; counted = built.counted + 1 }))
              (takes_submodule d e q room value takes.cells);
          kept = record { counted = ap (λ (d : presentations.Draft). d.counted) takes.taken ∙ submodule_counted q ∙ ap (λ n. n + 1) kept.counted; open_ = tt };
        }
