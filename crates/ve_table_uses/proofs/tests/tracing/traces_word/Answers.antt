use Rattle.ve_table_uses.proofs.TotalTables.{traced_everywhere}
use Rattle.ve_table_uses.proofs.tests.tracing.traces_word.Goals as goal

pub trace_word-requires-clause-found : goal.trace_word-requires-clause-found
trace_word-requires-clause-found c = traced_everywhere _ _ _ _ (λ b x none. cc)
