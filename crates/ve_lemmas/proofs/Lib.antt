-- Lemmas that several crates cite, by theme. What the laws of `ve_theory` need stands there and is handed on from here.
pub mod Lists
pub mod InPlace
pub mod Residues
pub mod Words
pub mod Orders
pub mod Weights
pub mod Sums
pub mod Products
pub mod Halves
pub mod Relators
pub mod Derivations
