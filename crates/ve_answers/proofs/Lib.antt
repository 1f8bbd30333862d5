-- ---- steps from line to line
pub mod Places
pub mod Steps
pub mod TextEnds
pub mod WholeText
-- ---- the first lines
pub mod Pieces
pub mod NameTexts
pub mod NewNames
pub mod HeadLines
pub mod HeadSteps
-- ---- basis words
pub mod LastStar
pub mod TextPlaces
pub mod NextWords
pub mod BasisSteps
-- ---- rows
pub mod NumberPieces
pub mod RowEntries
pub mod RepeatedPlaces
pub mod RowPlaces
pub mod RowSteps
pub mod MatrixSteps
