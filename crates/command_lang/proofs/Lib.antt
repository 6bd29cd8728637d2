pub mod Faults
pub mod Spoken
pub mod SameCommands
pub mod Forms
pub mod Commands
pub mod Refused
