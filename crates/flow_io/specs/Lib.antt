pub mod Causes
pub mod Inputs
pub mod Reading
pub mod Found
pub mod Told
pub mod Serving
pub mod Memory
