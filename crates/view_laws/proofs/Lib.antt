-- Read first: Counting (queues), then SoundScopes and QuietScopes (one scope and any depth), MoreDue and DueOnce (what is due), Trusting, WholeRuns. The bound of turns: BoundedDue, TakenMessages. Example: a run computed. The next event of a legal run: Learnt and SeenNext (what it tells), Attempts to Grounds (what counts, counts of attempts that have started), Unfinished to Led (one scope, and the way down), NextEvents. ExampleLegal and ExampleStarted: what the laws say of the computed run.
pub mod Honest
pub mod Counting
pub mod SameNotes
pub mod SoundScopes
pub mod QuietScopes
pub mod ShownFates
pub mod MoreDue
pub mod DueOnce
pub mod Trusting
pub mod NothingDue
pub mod WholeRuns
pub mod BoundedDue
pub mod TakenMessages
mod Example
pub mod Learnt
pub mod SeenNext
pub mod Attempts
pub mod StartedParts
pub mod ListedStarts
pub mod DueParts
pub mod ReadyInView
pub mod Grounds
pub mod Unfinished
pub mod FoundSignals
pub mod MayCome
pub mod Led
pub mod AttemptsWithin
pub mod NextEvents
mod ExampleLegal
mod ExampleStarted
