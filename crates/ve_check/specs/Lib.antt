pub mod Verdicts
pub mod Failures
pub mod OriginRows
