pub mod Totals
pub mod Journals
pub mod Standing
pub mod Turns
pub mod Passes
