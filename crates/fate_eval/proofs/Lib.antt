-- Read first: Behind, Groups and Seen (the completions, seen from a scope), Turns (attempts), InOrder (a pass). Then what is so after this many completions:
-- Sources, InTurn, InTime, Below and InPass (what is found is so in time), RowScopes, WholeTurn, WholeTime, WholeBelow and WholePass (all is found), Marks (a root).
pub mod Behind
pub mod Groups
pub mod Rows
pub mod Complete
pub mod Turns
pub mod Seen
pub mod Sources
pub mod InTurn
pub mod InTime
pub mod InOrder
pub mod InPass
pub mod Below
pub mod Marks
pub mod WholeTurn
pub mod RowScopes
pub mod WholeTime
pub mod WholePass
pub mod WholeBelow
