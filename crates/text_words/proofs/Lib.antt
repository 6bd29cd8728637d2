pub mod Reading
pub mod Judging
pub mod Answering
pub mod Gathering
pub mod Limits
pub mod Counting
pub mod Writing
pub mod Spelling
