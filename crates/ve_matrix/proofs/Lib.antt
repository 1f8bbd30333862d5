pub mod Tables
pub mod Identity
pub mod Evaluating
pub mod Copying
pub mod Answering
pub mod BasisWords
pub mod RisingWords
pub mod Naming
