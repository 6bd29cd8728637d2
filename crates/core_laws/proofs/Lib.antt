-- Read first: Standing (messages of one root in the queues), then Places (the queue of a message, in a larger library too), then Staying, by what Asked names. Counted: numbers of roots. Said and Told: the live transactions. ServedTogether: the library. Outputs: what a root that is done shows. Making: a transaction that may be meets all that.
pub mod Asked
pub mod Standing
pub mod Places
pub mod Staying
pub mod Counted
pub mod Said
pub mod Told
pub mod ServedTogether
pub mod Completed
pub mod Outputs
pub mod Making
