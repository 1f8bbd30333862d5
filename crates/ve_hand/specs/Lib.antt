pub mod Jobs
pub mod Parts
pub mod Views
pub mod Fits
pub mod Outcomes
