-- Read first: Knowing (what names stand for in a text), Numbering (the least of places that elements have by their numbers) and Deciding (tests of two parts); Same is on lists of leaves, and InOrder on the least place of rule 18; then Performing (rule 20), Counted (rule 23), Extra (rule 24) and Shaping (rules 21 and 22). Indexing is on the library's index of names, and Classed on the classes of containers.
pub mod Indexing
pub mod Classed
pub mod Knowing
pub mod Numbering
pub mod Performing
pub mod Extra
pub mod Counted
pub mod Shaping
pub mod Deciding
pub mod Same
pub mod InOrder
