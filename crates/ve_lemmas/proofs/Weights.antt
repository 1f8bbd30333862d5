-- The weights of words, and how far they reach.
use Rattle.std.proofs.Common.{ℕ, ◌≤◌, inl, inr, List, arith}
use Rattle.ve_theory.specs.Words.{Word, word_weight, Weighted}
pub use Rattle.ve_theory.proofs.Orders.{letters_weight-push, word_weight-letters, reach-generator, reach-times}

-- a word before another weighs no more
pub weights_rise : (weights : List ℕ) (v w : Word) → Weighted weights v w → word_weight weights v ≤ word_weight weights w
unfolding Weighted
weights_rise weights v w (inl h) = omega arith
weights_rise weights v w (inr h) = omega (arith, h.0)
