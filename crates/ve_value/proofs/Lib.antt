pub mod TokenLists
pub mod LexedTokens
mod ShapeSteps
mod Limits
mod Joining
mod Powers
mod NameTexts
mod Letters
mod FaultyFronts
mod WorkSteps
mod Evaluating
mod GeneratorNames
mod ModuleSteps
mod ModuleLimits
mod ModuleJoining
mod FaultyModules
mod ModuleWorkSteps
mod ModuleEvaluating
