-- ---- words and lists
mod Orders
mod Words
mod LetterLists
mod Bounds
-- ---- sums and products
mod Sums
mod Reduced
mod GatheringSteps
mod Gatherings
mod Merging
mod MergeSteps
mod MovedMerges
mod Products
mod Negatives
mod PowerSteps
mod InAlgebra
-- ---- weights and limits
mod WeightSums
pub mod WordBounds
mod KeptElements
-- ---- presentations
mod HalfSteps
mod ValidPresentations
