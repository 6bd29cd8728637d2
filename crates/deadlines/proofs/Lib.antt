-- Read first: Declared (people), Found (who may do an item, notices), then Going (what it goes by).
pub mod Declared
pub mod Found
pub mod Going
