use Rattle.std.proofs.Common.{◌^◌, ◌<◌, ◌++◌, All, drop}
use Rattle.ve_theory.specs.Combinations.{scaled}
use Rattle.ve_vec.specs.Spans.{spanned}
use Rattle.ve_vec.specs.Terms.{pairs}
use Rattle.ve_vec.proofs.Spanning.{Summing}
use Rattle.ve_vec.proofs.dense.add_terms.Given as goal

abbrev pub invariant-loop-term : goal.invariant-loop-term
invariant-loop-term l =
    All (λ n. n < 2 ^ 31) l.numbers
    × Summing l.field l.low l.by l.numbers (drop l.term-index l.terms) (spanned l.low l.fn.numbers ++ scaled l.by (pairs l.terms))
