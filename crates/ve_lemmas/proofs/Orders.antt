-- The orders of letters and of words.
use Rattle.std.proofs.Common.{inl, inr, arith}
use Rattle.ve_theory.specs.Words.{Word, letters, IsSmaller}
use Rattle.ve_theory.proofs.Orders.{differs_irreflexive}
pub use Rattle.ve_theory.proofs.Orders.{differs_irreflexive, differs_transitive}

pub smaller_irreflexive : (w : Word) → IsSmaller w w → ⊥
smaller_irreflexive w (inl h) = omega arith
smaller_irreflexive w (inr h) = differs_irreflexive (letters w) h.1
