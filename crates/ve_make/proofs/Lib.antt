pub mod Vanishing
pub mod Rooms
pub mod Swaps
pub mod Building
