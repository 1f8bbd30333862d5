pub mod Refusals
pub mod Fronts
pub mod Forms
pub mod Drafts
pub mod Cutting
