-- Where nothing is left to do the level is finished.
use Rattle.std.proofs.Common.{◌≡◌, ℕ, ◌<◌, ◌≤◌, ◌⊎◌, inl, inr, Some, List, [], length, sym, ap, subst, arith}
use Rattle.std.specs.Prelude.{Option, slice_get}
use Rattle.std.proofs.lemmas.Bool.{cases_lt}
use Rattle.ve_theory.specs.Words.{generator, word_weight}
use Rattle.ve_theory.specs.Elements.{Element, word_times}
use Rattle.ve_theory.specs.Presentations.{IsWord, relators, relator, submodule_relation, element_reach, due}
use Rattle.ve_theory.specs.Derivations.{DerivedWithin}
use Rattle.ve_theory.specs.Answers.{Row, Action, image_row, row_times, word_row, evaluation}
use Rattle.ve_theory.specs.Laws.{FinishedLevelsSettle, LevelsAreClosed, IsElementUpTo}
use Rattle.ve_theory.proofs.Sums.{SameWeights}
use Rattle.ve_theory.proofs.DerivationTrees.{All-greatest}
use Rattle.ve_table.specs.Tables.{ActionTable, presented, word_at, row_at, IsLive, live_words}
use Rattle.ve_table.specs.Sound.{IsSound}
use Rattle.ve_table.specs.Changes.{Grows}
use Rattle.ve_table.proofs.Dropping.{id_within}
use Rattle.ve_machine.specs.Jobs.{IsUnderWay, IsSettled}
use Rattle.ve_machine.specs.Finished.{IsOpening, IsPacked, IsFinishedTable}
use Rattle.ve_machine.specs.Laws.{ResolutionsExist, NothingLeftIsFinished}
use Rattle.ve_machine.proofs.LiveActions.{live_images, live_matrices, live_action_of_table}
use Rattle.ve_machine.proofs.SettledSteps.{opening, settled, settled_row, image_settled, step_settled, known_vanishes}
use Rattle.ve_machine.proofs.LiveLevels.{is_finished_level}
use Rattle.ve_machine.proofs.OpeningLevels.{opened_own, grown_own, lower_vanishes}
use Rattle.ve_machine.proofs.RelatorWords.{relator_upto}

-- what the opening tells of an action
record OpeningTells (T : ActionTable) (A : Action) : Type 0 where
  own : (b : ℕ) → b < length T.words → SameWeights (presented T).prime (word_row A (word_at T b)) (settled T b)
  lower : (j : ℕ) (v : Element) → j < T.level → IsElementUpTo (presented T) j v → DerivedWithin (presented T) j v → SameWeights (presented T).prime (evaluation A v) []

-- the table before it grew, with what stayed
abbrev before_growth : ActionTable → ActionTable → ActionTable
before_growth T old = record { draft = T.draft; level = old.level; words = old.words; forwards = old.forwards; rows = old.rows; images = T.images }

module _ (exist : ResolutionsExist) (settle : FinishedLevelsSettle) (closed : LevelsAreClosed) (T : ActionTable) (fs : List (Option Row)) (rs : List (List (Option Row)))
    (is_opening : IsOpening (opening T fs rs)) (sound_opening : IsSound (opening T fs rs)) (under_way : IsUnderWay (opening T fs rs) T) (settles : IsSettled (opening T fs rs) T.forwards) where
  abbrev O : ActionTable
  O = opening T fs rs

  sound : IsSound T
  sound = under_way.sound

  abbrev A : Action
  A = record { basis = live_words T; images = live_images T sound exist; matrices = live_matrices T sound exist }

  images_are : (i : ℕ) (v : Row) → slice_get T.images i ≡ Some v → SameWeights (presented T).prime (settled_row T v) (image_row A i)
  images_are = image_settled T fs rs A sound sound_opening (live_action_of_table T sound exist) under_way.rows

  steps_are : (b x : ℕ) (v : Row) → row_at O b x ≡ Some v → SameWeights (presented T).prime (settled_row T v) (row_times A (settled T b) x)
  steps_are = step_settled T fs rs A sound sound_opening (live_action_of_table T sound exist) under_way.rows settles

  grown_tells : (old : ActionTable) → old.draft ≡ T.draft → old.images ≡ T.images → IsFinishedTable old → IsPacked old → Grows old O → OpeningTells T A
  grown_tells old draft images = subst (λ (S : ActionTable). IsFinishedTable S → IsPacked S → Grows S O → OpeningTells T A) whole at
    where
      whole : before_growth T old ≡ old
      whole = λ k. record { draft = sym draft k; level = old.level; words = old.words; forwards = old.forwards; rows = old.rows; images = sym images k }

      at : IsFinishedTable (before_growth T old) → IsPacked (before_growth T old) → Grows (before_growth T old) O → OpeningTells T A
      at finished packed grows = record {
        own = grown_own T A images_are fs rs old.level old.words old.forwards old.rows sound sound_opening finished.sound packed finished.action finished.of_table finished.finished grows settle steps_are;
        lower = lower_vanishes T A images_are fs rs old.level old.words old.forwards old.rows sound sound_opening finished.sound packed finished.action finished.of_table finished.finished grows settle steps_are;
      }

  tells : OpeningTells T A
  tells = cases is_opening
    where
      cases : IsOpening O → OpeningTells T A
      cases (inl is) = record {
        own = opened_own T A images_are (ap (λ (S : ActionTable). S.words) is) (ap (λ (S : ActionTable). S.images) is);
        lower = λ j v less upto derived. absurd (omega (arith, less, ap (λ (S : ActionTable). S.level) is));
      }
      cases (inr (old, finished, packed, grows)) = grown_tells old (sym grows.draft) (sym grows.images) finished packed grows

  nothing_left_here : IsFinishedTable T
  nothing_left_here = record {
    sound = sound;
    action = A;
    of_table = live_action_of_table T sound exist;
    finished = is_finished_level T (live_images T sound exist) (live_matrices T sound exist) sound (live_action_of_table T sound exist) tells.own relators_vanish submodule_vanishes;
  }
    where
      relators_vanish : (b number : ℕ) → IsLive T b → number < length (relators (presented T)) → due (presented T) (word_at T b) (relator (presented T) number) ≤ T.level
          → SameWeights (presented T).prime (evaluation A (word_times (word_at T b) (relator (presented T) number))) []
      relators_vanish b number live within le = cases (cases_lt (due (presented T) (word_at T b) (relator (presented T) number)) T.level)
        where
          good : IsWord (presented T) (word_at T b)
          good = (sound.words b (generator 0) (id_within T b sound.one_forward_each live)).0

          cases : (due (presented T) (word_at T b) (relator (presented T) number) < T.level) ⊎ (T.level ≤ due (presented T) (word_at T b) (relator (presented T) number))
              → SameWeights (presented T).prime (evaluation A (word_times (word_at T b) (relator (presented T) number))) []
          cases (inl less) =
              tells.lower (due (presented T) (word_at T b) (relator (presented T) number)) (word_times (word_at T b) (relator (presented T) number)) less
              (relator_upto (presented T) sound.valid.presentation (word_at T b) number good within)
              ((closed (presented T) (due (presented T) (word_at T b) (relator (presented T) number))).by_relators (word_at T b) number good within (omega arith))
          cases (inr past) =
              known_vanishes T fs rs A sound sound_opening (live_action_of_table T sound exist) under_way.rows settles tells.own
              (settles.relators b number (record { live = live; is_relator = within; due = omega (arith, le, past) }))

      submodule_vanishes : (number : ℕ) → number < length (presented T).submodule → element_reach (presented T) (submodule_relation (presented T) number) ≤ T.level
          → SameWeights (presented T).prime (evaluation A (submodule_relation (presented T) number)) []
      submodule_vanishes number within le = cases (cases_lt (element_reach (presented T) (submodule_relation (presented T) number)) T.level)
        where
          cases : (element_reach (presented T) (submodule_relation (presented T) number) < T.level) ⊎ (T.level ≤ element_reach (presented T) (submodule_relation (presented T) number))
              → SameWeights (presented T).prime (evaluation A (submodule_relation (presented T) number)) []
          cases (inl less) =
              tells.lower (element_reach (presented T) (submodule_relation (presented T) number)) (submodule_relation (presented T) number) less
              (λ k t l. (
                (sound.valid.presentation.submodule number [] within).1 k t l,
                All-greatest (word_weight (presented T).weights) (submodule_relation (presented T) number) (element_reach (presented T) (submodule_relation (presented T) number)) (omega arith) k t l,
              ))
              ((closed (presented T) (element_reach (presented T) (submodule_relation (presented T) number))).by_submodule number within (omega arith))
          cases (inr past) =
              known_vanishes T fs rs A sound sound_opening (live_action_of_table T sound exist) under_way.rows settles tells.own
              (settles.submodule number (record { is_relation = within; due = omega (arith, le, past) }))

pub nothing_left : ResolutionsExist → FinishedLevelsSettle → LevelsAreClosed → NothingLeftIsFinished
nothing_left exist settle closed O T is_opening sound_opening under_way settles =
    subst (λ (S : ActionTable). IsOpening S → IsSound S → IsUnderWay S T → IsSettled S T.forwards → IsFinishedTable T) whole (nothing_left_here exist settle closed T O.forwards O.rows)
    is_opening sound_opening under_way settles
  where
    whole : opening T O.forwards O.rows ≡ O
    whole = λ k. record { draft = under_way.draft k; level = under_way.level k; words = under_way.words k; forwards = O.forwards; rows = O.rows; images = under_way.images k }
