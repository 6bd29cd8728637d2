pub mod Certified
pub mod Histories
pub mod Verdicts
