pub mod Runs
pub mod Follows
pub mod Making
pub mod Lives
