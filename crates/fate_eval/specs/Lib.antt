pub mod Entries
pub mod Grouped
pub mod Passing
pub mod Refusals
pub mod Timely
pub mod Whole
