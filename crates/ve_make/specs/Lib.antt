pub mod Symmetric
pub mod Parts
