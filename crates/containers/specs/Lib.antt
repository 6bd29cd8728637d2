pub mod Named
pub mod Settings
