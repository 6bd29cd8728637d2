pub mod Entries
pub mod Rows
pub mod Lends
pub mod RowLends
