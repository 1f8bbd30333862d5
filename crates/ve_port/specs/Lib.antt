pub mod Count
pub mod Edge
pub mod MemStream
pub mod Sink
pub mod Source
pub mod Sure
pub mod Writing
