pub mod Journal
pub mod Knows
pub mod Views
pub mod Places
pub mod Rule
pub mod Steps
pub mod Numbered
