pub mod Levels
pub mod Filing
