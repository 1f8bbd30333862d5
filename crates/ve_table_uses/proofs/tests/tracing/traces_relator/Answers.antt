use Rattle.ve_theory.specs.Words.{ShortlexLetters, same_letters}
use Rattle.ve_theory.proofs.Reduced.{coefficients-reduced, shortlex_letters_strict}
use Rattle.ve_theory.proofs.Sums.{Decides-same_letters}
use Rattle.ve_table_uses.proofs.TotalTables.{traced_everywhere}
use Rattle.ve_table_uses.proofs.tests.tracing.traces_relator.Goals as goal

pub trace_relator-requires-clause-residues : goal.trace_relator-requires-clause-residues
trace_relator-requires-clause-residues c = λ k d within. (coefficients-reduced ShortlexLetters shortlex_letters_strict same_letters Decides-same_letters _ _ c.in_ok-relator.ensures.reduced k d within).2

pub trace_relator-requires-clause-found : goal.trace_relator-requires-clause-found
trace_relator-requires-clause-found c = λ k d within. traced_everywhere _ _ _ _ (λ b x none. cc)
