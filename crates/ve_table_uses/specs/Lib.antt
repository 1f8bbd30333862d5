pub mod Imposing
