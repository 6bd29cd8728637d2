-- Read first: Paths and Ranks (which path has which rank), then Shelves (one item after the other is listed anew or taken off). OpenLines and SameLines: the line of an open item, and that it stays; Settled: in a right root. Moving: the items of a root move. Staying and WholeRoots: with each kind of transaction; Transactions: with all. Spelled and OpenAsked: what commands and records asked. ExactLines: the worklist of a person.
pub mod Paths
pub mod Ranks
pub mod Shelves
pub mod OpenLines
pub mod SameLines
pub mod Settled
pub mod Moving
pub mod Staying
pub mod WholeRoots
pub mod Transactions
pub mod Spelled
pub mod OpenAsked
pub mod ExactLines
