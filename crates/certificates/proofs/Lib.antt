-- Lookups says what a change of a map leaves at any text; Texts says the same of what is told and of what was accepted. Rows is about what
-- leads to an activity. Growth says that what follows from what is told follows later, Sound that all that is told follows, and so that a line
-- that was justified is justified again and tells nothing more. Progress puts them together for a list of lines.
pub mod Cuts
pub mod Lookups
pub mod Texts
pub mod Rows
pub mod Attempts
pub mod Laid
pub mod Growth
pub mod Sound
pub mod Progress
