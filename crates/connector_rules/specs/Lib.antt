pub mod Connectors
pub mod EdgesMet
pub mod EdgesGrouped
pub mod Walking
