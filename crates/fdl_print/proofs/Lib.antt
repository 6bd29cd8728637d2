-- What the printer writes: pieces one behind the other, and what a block shows.
pub mod Laying
pub mod Blocks
-- That it reads back: what spells a token, how tokens of a text follow from pieces, and then the grammar part
-- by part, up to the items of a text.
pub mod Fine
pub mod Laid
pub mod Shows
pub mod ShowsConditions
pub mod ShowsElements
pub mod ShowsItems
-- That it reads as nothing else, and that trees which differ at most in places have one text.
pub mod Follows
pub mod SameText
