pub mod Overdue
