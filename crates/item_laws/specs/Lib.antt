pub mod OpenItems
pub mod Laws
pub mod Performers
