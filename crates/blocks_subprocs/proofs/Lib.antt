pub mod Lines
pub mod Library
