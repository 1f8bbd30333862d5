pub mod TableOfPrimes
pub mod Powers
