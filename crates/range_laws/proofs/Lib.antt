-- To read in this order: Queues (what is put and taken), Scenes (what an event does to one scope), Walks (to the scope of
-- a path), Steps (one transaction). Of texts: Named (names in a tree are names), Shapes (how deep the graphs of a text
-- nest), Judged (what rules leave of a text that is accepted), Templates (what an IMPORT adds). Then Standing (such a
-- state stands in range), Histories, Words. Of sessions: Worded (what a line says), Asked (what an input asks for),
-- Scripts; Stores. Examples: how many levels a block takes; LineExamples: what lines say.
pub mod Queues
pub mod Scenes
pub mod Walks
pub mod Steps
pub mod Named
pub mod Shapes
pub mod Judged
pub mod Templates
pub mod Standing
pub mod Histories
pub mod Words
pub mod Worded
pub mod Asked
pub mod Scripts
pub mod Stores
pub mod Examples
pub mod LineExamples
