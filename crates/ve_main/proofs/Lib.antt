pub mod Endings
pub mod Reading
pub mod Texts
pub mod Runs
pub mod Verdicts
