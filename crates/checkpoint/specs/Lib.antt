pub mod Stops
pub mod Writing
pub mod Compacting
