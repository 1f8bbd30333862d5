pub mod Terms
pub mod Vectors
pub mod Tracing
pub mod Spans
pub mod Held
