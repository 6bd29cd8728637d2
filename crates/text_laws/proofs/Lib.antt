-- What a text means: Conditions, Parts (connectors and lines), Depth (how deep blocks nest), Inside (which graphs a text
-- has), Graphs, Templates. How it is judged: Trees (tokens and trees), Judged.
pub mod Conditions
pub mod Parts
pub mod Depth
pub mod Inside
pub mod Graphs
pub mod Trees
pub mod Templates
pub mod Judged
