pub mod Signals
pub mod Tallies
