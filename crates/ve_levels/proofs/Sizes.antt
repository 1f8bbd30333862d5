-- The size of the level after a finished one.
use Rattle.std.proofs.Common.{ℕ, ◌+◌, ◌≤◌, length, sym, ap, subst, add-one}
use Rattle.std.specs.Prelude.{sum_by}
use Rattle.ve_theory.specs.Levels.{HasSize, FitsLimit, IsNormal, Lists, steps_to}
use Rattle.ve_theory.specs.Laws.{FinishedLevelsSettle}
use Rattle.ve_table.specs.Tables.{ActionTable, presented, live_words}
use Rattle.ve_table.specs.Changes.{next_count}
use Rattle.ve_machine.specs.Finished.{IsFinishedTable}

pub next_size : (T : ActionTable) → FinishedLevelsSettle → IsFinishedTable T → HasSize (presented T) (T.level + 1) (next_count T)
unfolding HasSize
next_size T settle finished =
    subst (λ k. HasSize (presented T) k (next_count T)) (sym (add-one T.level)) (
      live_words T,
      subst (Lists (presented T) (IsNormal (presented T) T.level)) finished.of_table.basis
          (settle (presented T) T.level finished.action finished.sound.valid.presentation finished.finished).normal,
      ap (λ n. length (live_words T) + sum_by (steps_to (presented T) n) (live_words T)) (add-one T.level),
    )

pub next_fits : (T : ActionTable) (limit : ℕ) → FinishedLevelsSettle → IsFinishedTable T → next_count T ≤ limit → FitsLimit (presented T) limit (T.level + 1)
next_fits T limit settle finished small = (next_count T, next_size T settle finished, small)
