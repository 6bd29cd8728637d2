pub mod Codes
pub mod Making
pub mod Ranges
pub mod Reopening
pub mod Sessions
