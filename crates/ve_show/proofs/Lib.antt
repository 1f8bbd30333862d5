pub mod Joined
pub mod LetterLines
pub mod RelationLines
pub mod Numbered
pub mod Whole
