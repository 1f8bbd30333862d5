-- ---- words and tokens
mod SameWords
mod Fronts
mod Equations
mod Depth
-- ---- lines
mod Letters
mod HeaderLines
mod LetterLines
mod RelationLines
mod EndLines
mod LineSteps
-- ---- texts
mod Told
mod TextSteps
mod Cuts
mod SingleCuts
