pub mod LineByLine
pub mod Entries
pub mod Climbing
pub mod AnswerParts
pub mod Figures
