-- Read first: Starts (attempts that have started by the view and by the completions), then Inside (what a state says
-- along a path), Quiet (where no message of a root is queued) and Orders (where the order of events doesn't matter).
pub mod Starts
pub mod Inside
pub mod Quiet
pub mod Orders
