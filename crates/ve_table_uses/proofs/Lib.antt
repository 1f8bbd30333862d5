pub mod Numbering
pub mod TotalTables
pub mod Vanishing
