pub mod Working
pub mod Works
pub mod SameLevel
pub mod Due
