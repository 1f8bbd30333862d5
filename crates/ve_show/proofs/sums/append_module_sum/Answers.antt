use Rattle.std.proofs.Common.{sym, append-nil, arith}
use Rattle.ve_theory.specs.Words.{generator}
use Rattle.ve_formats.specs.CanonicalText.{joined_terms, term_text}
use Rattle.ve_show.proofs.Joined.{next_term}
use Rattle.ve_show.proofs.sums.append_module_sum.Goals as goal

pub loop-at-init : goal.loop-at-init
unfolding joined_terms
loop-at-init c = sym (append-nil c.args.line.now.items)

pub loop-at-preserved : goal.loop-at-preserved
loop-at-preserved c =
    next_term (term_text c.args.names.now) c.args.element.now c.loop-at.at (generator 0, 0) _ _ _ _ _ _ (omega arith) c.word_at.ensures.word c.coef_at.ensures c.loop-at.invariant c.in_ok-append_joint.ensures
    c.in_ok-append_term.ensures
