-- Lookups says what a change of a map leaves at any list; Steps says the same of the shelves.
pub mod Lookups
pub mod Steps
pub mod Found
pub mod Seen
pub mod Roots
