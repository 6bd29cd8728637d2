pub mod Pieces
pub mod Parts
pub mod Conditions
pub mod Elements
pub mod Canonical
pub mod Same
pub mod Laws
