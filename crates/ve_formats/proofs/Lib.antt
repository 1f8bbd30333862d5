-- ---- texts and tokens
mod Fronts
mod Lexing
mod Places
mod TextLines
pub mod Decimals
pub mod NumbersBelow
mod SameNames
pub mod SpacedPieces
pub mod Depth
-- ---- expressions
mod Parsing
mod ParsedSpelling
mod ModuleParsing
mod ModuleParsedSpelling
-- ---- values
mod Collecting
mod WordOrders
mod KeptTerms
mod SumTerms
mod ElementSums
mod ValueElements
mod ModuleValueElements
mod ExpressionValues
mod ModuleExpressionValues
mod Halving
-- ---- presentations, line by line
mod LineForms
mod LineWork
mod Standing
mod DeclaredLetters
mod NamedTokens
mod DraftInvariant
mod DraftValidity
mod LineOutcomes
mod TextOutcomes
-- ---- canonical texts
mod WrittenLines
mod WrittenTerms
mod CanonicalTerms
mod CanonicalModuleTerms
mod CanonicalLines
mod CanonicalLetters
mod CanonicalSpelling
-- ---- answers
mod AnswerRows
mod AnswerSteps
mod AnswerOutcomes
mod AnswerFilling
mod AnswerTaking
mod AnswerChoices
