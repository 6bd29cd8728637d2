pub mod Bounds
pub mod Standing
pub mod Laws
pub mod Words
pub mod Lines
pub mod Sessions
pub mod Stores
