pub mod Opening
pub mod Advancing
