pub mod Lists
pub mod Going
pub mod Working
pub mod Known
pub mod DueNumbers
pub mod Settling
pub mod Jobs
