pub mod Meaning
pub mod One
pub mod Examples
