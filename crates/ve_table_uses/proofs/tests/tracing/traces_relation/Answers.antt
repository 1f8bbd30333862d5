use Rattle.ve_theory.specs.Words.{Shortlex, same_word}
use Rattle.ve_theory.proofs.Reduced.{coefficients-reduced, shortlex_strict}
use Rattle.ve_theory.proofs.Sums.{Decides-same_word}
use Rattle.ve_table_uses.proofs.TotalTables.{traced_everywhere}
use Rattle.ve_table_uses.proofs.tests.tracing.traces_relation.Goals as goal

pub trace_sub-requires-clause-residues : goal.trace_sub-requires-clause-residues
trace_sub-requires-clause-residues c = λ k d within. (coefficients-reduced Shortlex shortlex_strict same_word Decides-same_word _ _ c.in_ok-relation.ensures k d within).2

pub trace_sub-requires-clause-found : goal.trace_sub-requires-clause-found
trace_sub-requires-clause-found c = λ k d within. traced_everywhere _ _ _ _ (λ b x none. cc)
