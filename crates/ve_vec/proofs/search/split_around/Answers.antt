use Rattle.std.proofs.Common.{ap, ◌∙◌}
use Rattle.std.proofs.lemmas.List.{map-append, nil_from_length}
use Rattle.ve_theory.specs.Combinations.{AllBefore}
use Rattle.ve_vec.specs.Terms.{pair_of, pairs}
use Rattle.ve_vec.proofs.Substituting.{first_below, missing, no_coefficient}
use Rattle.ve_vec.proofs.search.split_around.Goals as goal

pub returns-in_err-term-clause-no_coefficient : goal.returns-in_err-term-clause-no_coefficient
unfolding AllBefore
returns-in_err-term-clause-no_coefficient c =
    let none = nil_from_length _ c.in_err-term.ensures.cases in
    rw c.from_residual.ensures
    (no_coefficient _ _ _ _ (ap pairs c.split_at_id.ensures.whole ∙ map-append pair_of _ _) c.split_at_id.ensures.above (rw none tt))

pub returns-in_err-term-clause-no_term : goal.returns-in_err-term-clause-no_term
unfolding AllBefore
returns-in_err-term-clause-no_term c =
    let none = nil_from_length _ c.in_err-term.ensures.cases in
    rw c.from_residual.ensures
    (missing _ _ _ _ (ap pairs c.split_at_id.ensures.whole ∙ map-append pair_of _ _) c.split_at_id.ensures.above (rw none tt))

pub returns-else-term-id-clause-no_coefficient : goal.returns-else-term-id-clause-no_coefficient
returns-else-term-id-clause-no_coefficient c =
    let parts = ap pairs c.split_at_id.ensures.whole ∙ map-append pair_of c.split_at_id.result.0.now c.split_at_id.result.1.now in
    no_coefficient _ _ _ _ parts c.split_at_id.ensures.above
    (first_below c.requires.0 c.args.id _ _ _ _ (rw parts at c.requires.1) c.split_at_id.ensures.rest (ap pairs c.in_ok-term.ensures.cases.0) c.if-term-id.false)

pub returns-else-term-id-clause-no_term : goal.returns-else-term-id-clause-no_term
returns-else-term-id-clause-no_term c =
    let parts = ap pairs c.split_at_id.ensures.whole ∙ map-append pair_of c.split_at_id.result.0.now c.split_at_id.result.1.now in
    missing _ _ _ _ parts c.split_at_id.ensures.above
    (first_below c.requires.0 c.args.id _ _ _ _ (rw parts at c.requires.1) c.split_at_id.ensures.rest (ap pairs c.in_ok-term.ensures.cases.0) c.if-term-id.false)
