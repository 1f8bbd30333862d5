pub mod Naming
pub mod FewRelations
pub mod SameNames
pub mod Tracing
pub mod Vanishing
pub mod OwnRows
pub mod Units
pub mod PairAnswers
