pub mod Rights
pub mod SameShelf
pub mod Shelves
pub mod Standing
pub mod Listing
