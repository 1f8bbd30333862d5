pub mod Settling
pub mod Ids
pub mod NormalWords
pub mod Falling
pub mod Reduced
