pub mod Compact
pub mod Checkpoints
pub mod Resuming
pub mod Crashes
pub mod OwnStores
