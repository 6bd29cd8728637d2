pub mod Becoming
pub mod RightRoots
pub mod Laws
