-- Ids and the order of their words.
use Rattle.std.proofs.Common.{◌≡◌, ℕ, ◌<◌, ◌≤◌, ◌⊎◌, inl, inr, refl, subst, arith}
use Rattle.std.proofs.lemmas.Bool.{cases_lt}
use Rattle.ve_theory.specs.Words.{generator}
use Rattle.ve_theory.specs.Presentations.{reach, before}
use Rattle.ve_theory.specs.Answers.{IsNotAfter}
use Rattle.ve_theory.specs.Laws.{IsTotalOrder, WordsAreOrdered}
use Rattle.ve_table.specs.Tables.{ActionTable, presented, word_at, IsId}
use Rattle.ve_table.specs.Sound.{IsSound}
use Rattle.ve_settle.specs.Ids.{RisesWithIds}

module _ (T : ActionTable) (sound : IsSound T) (order : IsTotalOrder (presented T)) where
  -- the word of a lower id is not after the word of a higher one
  pub lower_not_after : (a b : ℕ) → a ≤ b → IsId T b → IsNotAfter (presented T) (word_at T a) (word_at T b)
  lower_not_after a b le id = cases (cases_lt a b)
    where
      cases : (a < b) ⊎ (b ≤ a) → IsNotAfter (presented T) (word_at T a) (word_at T b)
      cases (inl less) = inl (sound.rising a b (generator 0) less id)
      cases (inr more) = let same : a ≡ b = omega arith in subst (λ c. IsNotAfter (presented T) (word_at T a) (word_at T c)) same (inr refl)

  -- nor does it reach further
  pub lower_reach : (a b : ℕ) → a ≤ b → IsId T b → reach (presented T) (word_at T a) ≤ reach (presented T) (word_at T b)
  lower_reach a b le id = cases (cases_lt (reach (presented T) (word_at T b)) (reach (presented T) (word_at T a)))
    where
      beyond : IsNotAfter (presented T) (word_at T a) (word_at T b) → before (presented T) (word_at T b) (word_at T a) → ⊥
      beyond (inl less) more = order.irreflexive (word_at T a) (order.transitive (word_at T a) (word_at T b) (word_at T a) less more)
      beyond (inr same) more = order.irreflexive (word_at T b) (subst (λ v. before (presented T) (word_at T b) v) same more)

      cases : (reach (presented T) (word_at T b) < reach (presented T) (word_at T a)) ⊎ (reach (presented T) (word_at T a) ≤ reach (presented T) (word_at T b))
          → reach (presented T) (word_at T a) ≤ reach (presented T) (word_at T b)
      cases (inl further) = absurd (beyond (lower_not_after a b le id) (order.by_reach (word_at T b) (word_at T a) further))
      cases (inr within) = within

pub words_rise_with_ids : WordsAreOrdered → (T : ActionTable) → IsSound T → RisesWithIds T
words_rise_with_ids orders T sound =
    let order = orders (presented T) sound.valid.presentation in
    record { not_after = lower_not_after T sound order; reaches = lower_reach T sound order }
