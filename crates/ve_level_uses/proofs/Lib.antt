pub mod Starting
pub mod TripleAnswers
