pub mod Members
pub mod Folded
pub mod TextSides
pub mod Clear
