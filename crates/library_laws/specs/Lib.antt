pub mod Larger
pub mod Laws
