pub mod Transactions
pub mod Histories
pub mod Rows
pub mod Kept
