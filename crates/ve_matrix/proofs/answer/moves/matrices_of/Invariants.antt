use Rattle.std.proofs.Common.{◌≡◌, ◌<◌, ◌^◌, ◌++◌, length, map, All, Vec, Global}
use Rattle.ve_theory.specs.Answers.{Row}
use Rattle.ve_matrix.specs.Matrices.{HasColumnsBelow}
use Rattle.ve_matrix.proofs.answer.moves.matrices_of.Given as goal

abbrev pub invariant-loop-list : goal.invariant-loop-list
invariant-loop-list l = record {
  moved : l.matrices.items ++ map (λ (list : Vec Row Global). list.items) l.list-iterator.rest.items ≡ map (λ (list : Vec Row Global). list.items) l.fn.rows.items;
  count : All (λ (list : Vec Row Global). length list.items < 2 ^ 32) l.list-iterator.rest.items;
  columns : All (λ (list : Vec Row Global). HasColumnsBelow (length list.items) list.items) l.list-iterator.rest.items;
}
