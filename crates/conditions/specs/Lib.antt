pub mod Faults
pub mod Resolving
pub mod Sizes
