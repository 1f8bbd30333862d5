pub mod Basis
pub mod Heads
pub mod Refusals
pub mod Rows
pub mod Steps
