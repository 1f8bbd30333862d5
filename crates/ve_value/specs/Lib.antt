pub mod Faults
pub mod Signs
pub mod Shapes
pub mod Evaluation
pub mod Given
pub mod ModuleShapes
pub mod ModuleEvaluation
