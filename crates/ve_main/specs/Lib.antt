pub mod Commands
pub mod Stops
pub mod Refusals
pub mod Claims
pub mod Ending
pub mod Endings
