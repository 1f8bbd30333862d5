-- Lemmas that several proofs share.

-- ---- numbers, lists and sums
pub mod Inverses
pub mod Members
pub mod Sums
pub mod Reduced
pub mod RisingLists
-- ---- words and products
pub mod Orders
pub mod FiniteOrders
pub mod Products
pub mod InverseLetters
pub mod Halves
pub mod RelatorReaches
pub mod ValidBounds
-- ---- derivations
pub mod DerivationTrees
pub mod DerivedElements
pub mod ClosedLevels
pub mod Independence
-- ---- actions and answers
pub mod Evaluation
pub mod Remainders
pub mod Kernels
pub mod OrderedRows
pub mod AnswerKernels
pub mod UniqueAnswers
pub mod BalancedAnswers
-- ---- levels
pub mod Grown
pub mod LevelBounds
pub mod FinishedLevels
pub mod UniqueLevels
