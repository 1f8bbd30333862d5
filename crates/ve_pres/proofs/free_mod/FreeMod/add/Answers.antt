use Rattle.std.proofs.Common.{◌∙◌, ap, arith}
use Rattle.ve_pres.specs.Terms.{pairs}
use Rattle.ve_pres.proofs.KeptElements.{kept_merge, sum_of_views}
use Rattle.ve_pres.proofs.WordBounds.{words_of_append}
use Rattle.ve_pres.proofs.free_mod.FreeMod.add.Goals as goal

pub invariant_of-result : goal.invariant_of-result
invariant_of-result c =
    kept_merge _ _ _ _ _ _ (ap pairs c.deref.ensures.value ∙ c.self.view_is) (ap pairs c.deref-2.ensures.value ∙ c.other.view_is) c.term_count.ensures.kept c.term_count-2.ensures.kept
    (omega (arith, c.in_ok-check_sum.ensures.terms)) c.in_ok-terms.ensures.sum c.in_ok-terms.ensures.count

pub returns-clause-words : goal.returns-clause-words
returns-clause-words c m n left right =
    words_of_append _ m n _ _ _
    (sum_of_views _ _ _ _ _ _ (ap pairs c.deref.ensures.value ∙ c.self.view_is) (ap pairs c.deref-2.ensures.value ∙ c.other.view_is) c.in_ok-terms.ensures.sum)
    left right
