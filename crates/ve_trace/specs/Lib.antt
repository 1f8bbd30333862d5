pub mod Parts
pub mod Steps
pub mod Prefixes
pub mod Within
pub mod Found
