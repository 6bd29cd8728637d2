-- Read first: Listed, Orders and Wirings (the wiring of a graph), and Conditions (a condition with places of leaves).
-- Then Rules (what the rules say of a graph), Parts (what its text asks for), Graphs, Texts, and Verdicts
-- (the step of a transaction). Examples: an order, and the empty text.
pub mod Listed
pub mod Orders
pub mod Wirings
pub mod Conditions
pub mod Rules
pub mod Parts
pub mod Graphs
pub mod Texts
pub mod Verdicts
pub mod Examples
