-- Runs is for callers. The others prove the disk in memory: Records, then Steps, then Torn on what
-- a crash leaves by a choice.
pub mod Records
pub mod Steps
pub mod Torn
pub mod Runs
