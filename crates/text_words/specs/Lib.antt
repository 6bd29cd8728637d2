pub mod Answers
pub mod Attempts
pub mod Completions
pub mod FateAnswers
pub mod Gathered
pub mod Items
pub mod Limits
pub mod Nexts
