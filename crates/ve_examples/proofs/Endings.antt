-- How the levels of the two-cycle end under a limit.
use Rattle.std.proofs.Common.{ℕ, ◌<◌, ◌≤◌, [], ◌∷◌, zero, suc, arith}
use Rattle.ve_theory.specs.Levels.{FitsLimit, IsFinishedAt, IsOutgrown}
use Rattle.ve_theory.specs.Answers.{IsAnswer}
use Rattle.ve_examples.specs.Sizes.{HaveSizes}
use Rattle.ve_examples.specs.TwoCycle.{two_cycle, two_cycle_answer}

abbrev sizes : Type 0
sizes = HaveSizes two_cycle (1 ∷ 2 ∷ 3 ∷ 2 ∷ [])

pub two_cycle_finished : IsAnswer two_cycle two_cycle_answer → sizes → IsFinishedAt two_cycle 3 3
unfolding two_cycle_answer HaveSizes
two_cycle_finished answer listed = record { closing = answer.closed; fits = fits }
  where
    fits : (j : ℕ) → j ≤ 3 → FitsLimit two_cycle 3 j
    fits zero l = (1, listed 0 (omega arith), omega arith)
    fits (suc zero) l = (2, listed 1 (omega arith), omega arith)
    fits (suc (suc zero)) l = (3, listed 2 (omega arith), omega arith)
    fits (suc (suc (suc zero))) l = (2, listed 3 (omega arith), omega arith)
    fits (suc (suc (suc (suc j)))) l = absurd (omega arith)

pub two_cycle_outgrown : IsAnswer two_cycle two_cycle_answer → sizes → IsOutgrown two_cycle 2 2 3
unfolding two_cycle_answer HaveSizes
two_cycle_outgrown answer listed = record {
  size = listed 2 (omega arith);
  exceeds = omega arith;
  open_before = λ j l. answer.closed.least j (omega arith);
  fits_before = fits;
}
  where
    fits : (j : ℕ) → j < 2 → FitsLimit two_cycle 2 j
    fits zero l = (1, listed 0 (omega arith), omega arith)
    fits (suc zero) l = (2, listed 1 (omega arith), omega arith)
    fits (suc (suc j)) l = absurd (omega arith)
