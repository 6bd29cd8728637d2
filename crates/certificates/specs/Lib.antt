pub mod Naming
pub mod Lines
pub mod Told
pub mod Justified
pub mod Kept
