-- To read in this order: Settings (what is written for leaves fits them), Codes (outputs begin with a return code),
-- There (an item of the machine is one of the engine), Admitted (a command's transaction is admitted), Ranges (it is in
-- range), Made (a history that commands make, cut at a transaction), Spelled (the bytes of a record are those of one
-- transaction), Limits (the header of a store that counts), Reopened (the records of a slot), Sessions (what a session
-- makes); Examples: the premises can be met.
pub mod Settings
pub mod Codes
pub mod There
pub mod Admitted
pub mod Ranges
pub mod Made
pub mod Spelled
pub mod Limits
pub mod Reopened
pub mod Sessions
pub mod Examples
