pub mod Standings
pub mod Right
