-- To read in this order: Own (what an event of a root gives is of that root), Queues (the queues with the messages
-- alone that pass a test), Alike (a root after a step depends on it alone), Forgetting (a state without a root),
-- Judged (a verdict that isn't about a root is the same without it), Stepping (one record), Compact (all records, and
-- one transaction more); then Opened (a state to which records lead), Kept (a kept record is admitted), Since (the
-- records of a checkpoint and those behind them), Rising (the last of them), Unopened (a store of which no record is
-- unfit), Resumed (where they lead, and that none breaks), Images (the one summary of an image, the state to which it
-- is opened), Crashed (a front part of a history, and the calls of a session), Fitted (the records that commands made
-- are fit) and OwnStores (what a crash leaves of a state's own store); Examples and OwnExamples: the premises can be
-- met.
pub mod Own
pub mod Queues
pub mod Alike
pub mod Forgetting
pub mod Judged
pub mod Stepping
pub mod Compact
pub mod Opened
pub mod Kept
pub mod Since
pub mod Rising
pub mod Unopened
pub mod Resumed
pub mod Images
pub mod Crashed
pub mod Fitted
pub mod OwnStores
pub mod Examples
pub mod OwnExamples
