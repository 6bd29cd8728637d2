pub mod Lateness
pub mod Rolls
pub mod Texts
