pub mod Events
pub mod Desks
pub mod Dones
pub mod Moving
pub mod Apart
pub mod Kept
