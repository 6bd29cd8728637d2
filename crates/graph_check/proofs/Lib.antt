-- Read first: Stacks and Sourcing. `order` goes on with Steps and Ends, `reaching` with Spreads,
-- `components` with Leading and Groups, and then Cyclic.
-- NoReturn is for callers: what an order excludes.
pub mod Stacks
pub mod Sourcing
pub mod RowSteps
pub mod Steps
pub mod Ends
pub mod Spreads
pub mod Leading
pub mod Groups
pub mod Cyclic
pub mod NoReturn
