-- Coming is on payloads that come one after the other, Writes on single writes and how they follow each other, Bodies on a
-- whole body, Moves on the store.
pub mod Coming
pub mod Writes
pub mod Bodies
pub mod Moves
