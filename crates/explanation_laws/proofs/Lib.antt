-- Lists is about lists, Names about the activity of a name and paths one step down, Lines about justified lines one behind the other, Longer about
-- lines that go on, Attempts about attempts one after the other. Tries has the lines of a block or process activity, Walks those of one scope,
-- Scopes those of all scopes, from the root down. Rows says of which activity a row is, and Exact puts them together. Inside says which graphs have
-- scopes with activities as they are read, and Histories that the graphs of a library to which commands lead have such scopes.
-- Texts says that a text is that of one line of a certificate, and Verdicts that lines over a state are read in one way and have one verdict.
-- Example is a computed root of which the laws speak.
pub mod Lists
pub mod Names
pub mod Lines
pub mod Longer
pub mod Attempts
pub mod Tries
pub mod Walks
pub mod Scopes
pub mod Rows
pub mod Exact
pub mod Inside
pub mod Histories
pub mod Texts
pub mod Verdicts
mod Example
