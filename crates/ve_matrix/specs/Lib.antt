pub mod Matrices
pub mod Answers
pub mod Evaluating
pub mod Copying
pub mod BasisWords
pub mod Disorders
