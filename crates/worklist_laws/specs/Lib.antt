pub mod Shelved
pub mod Asking
pub mod Exact
pub mod Laws
