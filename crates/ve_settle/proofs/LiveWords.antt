-- The words of the live ids, and what a finished table says of them.
use Rattle.std.proofs.Common.{◌≡◌, ℕ, zero, suc, ◌+◌, ◌<◌, ◌≤◌, Some, None, List, [], ◌∷◌, length, get_or, refl, subst, ◌∙◌, add-one, arith}
use Rattle.std.specs.Prelude.{Option, ◌↔◌, slice_get, sum_by}
use Rattle.std.proofs.lemmas.List.{get_or_default}
use Rattle.std.proofs.lemmas.Option.{slice_get_within}
use Rattle.ve_theory.specs.Words.{Word, generator}
use Rattle.ve_theory.specs.Presentations.{reach}
use Rattle.ve_theory.specs.Levels.{Lists, IsNormal, HasSize, steps_to}
use Rattle.ve_theory.specs.Answers.{Row}
use Rattle.ve_theory.specs.Laws.{FinishedLevelsSettle, IsTotalOrder}
use Rattle.ve_table.specs.Tables.{ActionTable, presented, word_at, IsId, IsLive, of_live, live_words}
use Rattle.ve_machine.specs.Finished.{IsFinishedTable}
use Rattle.ve_settle.specs.NormalWords.{SettlesTable}
use Rattle.ve_settle.proofs.Order.{lower_reach}

-- a place of what the live ids have, and the id that has it
place_of : {X : Type 0} (fs : List (Option Row)) (xs : List X) (b : ℕ) (d : X) → length fs ≡ length xs → slice_get fs b ≡ Some None
    → (k : ℕ) × (k < length (of_live fs xs)) × (get_or (of_live fs xs) k d ≡ get_or xs b d)
unfolding of_live
place_of [] xs b d same live = absurd cc
place_of (f ∷ fs) [] b d same live = absurd (omega (arith, same))
place_of (None ∷ fs) (x ∷ xs) zero d same live = (0, omega arith, refl)
place_of (Some v ∷ fs) (x ∷ xs) zero d same live = absurd cc
place_of (None ∷ fs) (x ∷ xs) (suc b) d same live =
    let found = place_of fs xs b d (omega (arith, same)) live in
    (suc found.0, omega (arith, found.1), found.2)
place_of (Some v ∷ fs) (x ∷ xs) (suc b) d same live = place_of fs xs b d (omega (arith, same)) live

id_of : {X : Type 0} (fs : List (Option Row)) (xs : List X) (k : ℕ) (d : X) → k < length (of_live fs xs)
    → (b : ℕ) × (slice_get fs b ≡ Some None) × (get_or xs b d ≡ get_or (of_live fs xs) k d)
unfolding of_live
id_of [] xs k d less = absurd (omega (arith, less))
id_of (f ∷ fs) [] k d less = absurd (omega (arith, less))
id_of (None ∷ fs) (x ∷ xs) zero d less = (0, refl, refl)
id_of (None ∷ fs) (x ∷ xs) (suc k) d less = let found = id_of fs xs k d (omega (arith, less)) in (suc found.0, found.1, found.2)
id_of (Some v ∷ fs) (x ∷ xs) k d less = let found = id_of fs xs k d less in (suc found.0, found.1, found.2)

-- the normal words of a finished table's level are the words of its live ids
pub finished_tables_settle : FinishedLevelsSettle → (T : ActionTable) → IsFinishedTable T → SettlesTable T
unfolding HasSize
finished_tables_settle settle T finished = record { normal = normal; next = sized (T.level + 1) (add-one T.level) }
  where
    normal : Lists (presented T) (IsNormal (presented T) T.level) (live_words T)
    normal =
        subst (Lists (presented T) (IsNormal (presented T) T.level)) finished.of_table.basis
        (settle (presented T) T.level finished.action finished.sound.valid.presentation finished.finished).normal

    sized : (next : ℕ) → next ≡ suc T.level → HasSize (presented T) next (length (live_words T) + sum_by (steps_to (presented T) next) (live_words T))
    sized next is = rw is (live_words T, normal, refl)

module _ (T : ActionTable) (finished : IsFinishedTable T) (settled : SettlesTable T) where
  live_is_normal : (b : ℕ) → IsLive T b → IsNormal (presented T) T.level (word_at T b)
  live_is_normal b live =
      let place = place_of T.forwards T.words b (generator 0) finished.sound.one_forward_each live in
      subst (IsNormal (presented T) T.level) place.2 (settled.normal.only place.0 (generator 0) place.1)

  normal_is_live : (w : Word) → IsNormal (presented T) T.level w → (b : ℕ) × IsLive T b × (word_at T b ≡ w)
  normal_is_live w normal =
      let place = settled.normal.every w normal in
      let found = id_of T.forwards T.words place.0 (generator 0) place.1 in
      (found.0, found.1, found.2 ∙ get_or_default (live_words T) place.0 (generator 0) w place.1 ∙ place.2)

  -- no normal word reaches further than the last live id's
  normal_reach : IsTotalOrder (presented T) → (last : ℕ) → IsLive T last → ((b : ℕ) → IsLive T b → b ≤ last)
      → (w : Word) → IsNormal (presented T) T.level w → reach (presented T) w ≤ reach (presented T) (word_at T last)
  normal_reach order last live greatest w normal =
      let found = normal_is_live w normal in
      let last_id : IsId T last = subst (λ n. last < n) finished.sound.one_forward_each (slice_get_within T.forwards last None live) in
      subst (λ v. reach (presented T) v ≤ reach (presented T) (word_at T last)) found.2 (lower_reach T finished.sound order found.0 last (greatest found.0 found.1) last_id)

  -- so the last one tells whether all of them are so much below the level
  pub last_decides : IsTotalOrder (presented T) → (last n : ℕ) → IsLive T last → ((b : ℕ) → IsLive T b → b ≤ last)
      → ((reach (presented T) (word_at T last) + n ≤ T.level) ↔ ((w : Word) → IsNormal (presented T) T.level w → reach (presented T) w + n ≤ T.level))
  last_decides order last n live greatest = (
    λ within w normal. omega (arith, within, normal_reach order last live greatest w normal),
    λ all. all (word_at T last) (live_is_normal last live),
  )

  pub nothing_normal : ((b : ℕ) → ¬ IsLive T b) → (w : Word) → ¬ IsNormal (presented T) T.level w
  nothing_normal none w normal = let found = normal_is_live w normal in none found.0 found.1
