-- Examples are proved by tests that compute. Each test is sound: where it passes, what it tests holds.
pub mod ListTests
pub mod OrderTests
pub mod SumTests
pub mod PresentationTests
pub mod LevelTests
pub mod WholeTests
pub mod TwoCycleLevels
pub mod ZeroModuleLevels
pub mod TiedGeneratorsLevels
pub mod ProportionalGeneratorsLevels
pub mod WeightedPairLevels
pub mod Endings
pub mod VerdictTests
pub mod InverseTests
