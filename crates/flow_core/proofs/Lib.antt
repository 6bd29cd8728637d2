-- Read first: Putting (queues), then Moved (roots and transactions).
pub mod HeldKeys
pub mod About
pub mod Listed
pub mod Shelved
pub mod Putting
pub mod Moved
pub mod Written
pub mod Counting
pub mod OpenItems
pub mod OpenRows
pub mod OpenRoots
pub mod Versions
pub mod Refusing
pub mod Admitting
pub mod Contained
pub mod Exact
