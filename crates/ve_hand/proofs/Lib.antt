pub mod FromTables
pub mod Fitting
pub mod Summing
pub mod GoingOn
pub mod PartLists
pub mod FoundLists
pub mod Residues
