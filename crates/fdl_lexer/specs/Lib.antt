pub mod Bytes
pub mod Gaps
pub mod Tokens
pub mod Laws
