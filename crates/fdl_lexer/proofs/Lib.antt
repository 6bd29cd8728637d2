-- Read in this order: what a kind of token is known by, what quotes hold, what stands between tokens,
-- how tokens follow one another, and why a text has one list of them.
pub mod Digits
pub mod Classes
pub mod Quotes
pub mod Doubled
pub mod Gaps
pub mod Scanned
pub mod Placed
pub mod SameGap
pub mod SameToken
pub mod SameScan
