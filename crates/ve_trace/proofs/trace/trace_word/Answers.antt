use Rattle.std.proofs.lemmas.Result.{IfOk-weaker}
use Rattle.ve_trace.proofs.TracedProducts.{traced_word}
use Rattle.ve_trace.proofs.trace.trace_word.Goals as goal

pub returns-clause-derived : goal.returns-clause-derived
returns-clause-derived g c =
    IfOk-weaker c.times_letters.result _ _
    (λ v traced T. traced_word c.reach_adds_up.ensures c.words_are_ordered.ensures T c.args.field.now (g.R.Rows.rows c.args.rows.now) c.args.start.now c.args.letters.now v traced)
    c.times_letters.ensures
