use Rattle.ve_trace.proofs.FoundProducts.{alike_vectors}
use Rattle.ve_trace.proofs.laws.alike_vectors_trace_alike.Goals as goal

pub returns : goal.returns
returns c = alike_vectors
