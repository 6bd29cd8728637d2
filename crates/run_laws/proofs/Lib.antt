-- To read in this order: Fronts (what is own after a front part), UnderWay (what an input asks for), Runs (a run over
-- an own store), Adopted (transactions that a store adopts), Follows (a run that follows a stream), Making (a new store)
-- and Lives (a store from run to run); Examples and FollowExamples: the premises can be met.
pub mod Fronts
pub mod UnderWay
pub mod Runs
pub mod Adopted
pub mod Follows
pub mod Making
pub mod Lives
pub mod Examples
pub mod FollowExamples
