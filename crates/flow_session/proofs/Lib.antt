-- Read Summaries first, then Histories, Keeping, Fitting, Calls, Leading and Runs; Replaying is of opening. What is replied
-- is the machine's by Turning (the turns of a DRAIN), Served (an input), RepliedScripts (a script), OneList (two runs).
pub mod Summaries
pub mod Histories
pub mod Keeping
pub mod Queued
pub mod Fitting
pub mod Calls
pub mod Rights
pub mod Leading
pub mod Asked
pub mod Replaying
pub mod Runs
pub mod Turns
pub mod Scripts
pub mod Inputs
pub mod Stopping
pub mod Refusing
pub mod Turning
pub mod Served
pub mod RepliedScripts
pub mod OneList
