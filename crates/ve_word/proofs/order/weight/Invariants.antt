use Rattle.std.proofs.Common.{◌≡◌, ◌*◌, ◌≤◌, take, sum_by}
use Rattle.ve_theory.specs.Words.{letter_weight}
use Rattle.ve_word.proofs.order.weight.Given as goal

abbrev pub invariant-loop-letter : goal.invariant-loop-letter
invariant-loop-letter l =
    record {
      sum : l.weight ≡ sum_by (letter_weight l.weights) (take l.letter-index l.letter-items);
      small : l.weight ≤ 255 * l.letter-index;
    }
