-- Worked shows the leaves of a row of structures. Edging and Cycles are for rule 7, Counting for rule 8. Rowing has the rows
-- of one structure, Making those of all, kinds first, and Tabling the table of them. Agreeing is for callers: rules 13 and 14
-- find the same over the leaves of a table and those of structures.
pub mod Worked
pub mod Edging
pub mod Cycles
pub mod Counting
pub mod Rowing
pub mod Making
pub mod Tabling
pub mod Classing
pub mod Settling
pub mod Agreeing
