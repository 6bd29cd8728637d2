-- Read first: Filed (rows), Leveling (levels) and Sorting (lists in order); then LevelOrders.
pub mod Filed
pub mod Leveling
pub mod Sorting
pub mod LevelOrders
