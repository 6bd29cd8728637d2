-- Chains is about attempts one after the other, Scopes about what is told of one scope, Steps about scopes one step down, Told about what is
-- told of all scopes. Spellings says that paths that are written alike are one.
pub mod Chains
pub mod Scopes
pub mod Steps
pub mod Spellings
pub mod Told
pub mod Lines
pub mod Shown
