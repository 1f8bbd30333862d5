use Rattle.std.proofs.Common.{◌≡◌, [], All, Vec, Global}
use Rattle.std.specs.Vec.{vec_len, vec_capacity}
use Rattle.ve_theory.specs.Answers.{Row}
use Rattle.ve_table.proofs.by_letter.empty_lists.Given as goal

abbrev pub invariant-loop-letter : goal.invariant-loop-letter
invariant-loop-letter l = record {
  empty : All (λ (list : Vec Row Global). list.items ≡ []) l.lists.items;
  count : vec_len l.lists ≡ l._letter;
  capacity : vec_capacity l.lists ≡ l.letters;
}
