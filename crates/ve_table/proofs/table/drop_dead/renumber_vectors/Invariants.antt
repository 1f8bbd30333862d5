use Rattle.std.proofs.Common.{◌≡◌, ◌++◌, map, take, drop}
use Rattle.ve_vec.specs.Vectors.{numbered}
use Rattle.ve_table.proofs.table.drop_dead.renumber_vectors.Given as goal

abbrev pub invariant-loop-vector : goal.invariant-loop-vector
invariant-loop-vector l = l.vector-items ≡ map (numbered l.numbers) (take l.vector-index l.fn.vectors) ++ drop l.vector-index l.fn.vectors
