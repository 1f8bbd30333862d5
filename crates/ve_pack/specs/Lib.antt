pub mod Packing
pub mod LiveVectors
