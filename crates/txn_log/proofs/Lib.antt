-- What stands in a slot: Records (bytes as records), Placed (their places), Slots (a good slot and
-- what a crash in its records makes of it), Numbers, Fronts (headers and the tests of a slot).
-- Batches: records that are added together.
-- What a step leaves: Begin (single writes), Staged (an append), Closing, Made (a new slot), Blocks
-- (reading). What both slots stand for: StoreStates, then Outlines, Appended and Openings.
pub mod Records
pub mod Placed
pub mod Slots
pub mod Batches
pub mod Numbers
pub mod Fronts
pub mod Begin
pub mod Staged
pub mod Closing
pub mod Made
pub mod Blocks
pub mod StoreStates
pub mod Outlines
pub mod Appended
pub mod Openings
pub mod Walks
