pub mod Entries
pub mod Overdue
