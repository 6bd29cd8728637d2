-- To read in this order: Seen (the view of items and queues), Stepping (each transaction), RightSteps (right states),
-- AppliedSteps (what `apply` owes), Good (what was tested), AdoptedSteps (what `adopt` owes), Judging (a text), Verdicts
-- (one verdict), Reading (a line), Draining (a DRAIN), Ordering (a worklist), Scripts (one list of replies).
-- Then Keyed (which live root has a key), Subjects (an item with what its tests ask), SeenVerdicts (the tests of a
-- command, its transaction and what its reply names), Obeyed (what a command makes and what is replied); Answers,
-- Worklists and SeenShows (the replies to queries), EachQuery (all of them). ShownRows stands alone.
pub mod Stepping
pub mod Seen
pub mod Judging
pub mod Verdicts
pub mod Reading
pub mod Draining
pub mod Ordering
pub mod Scripts
pub mod RightSteps
pub mod AppliedSteps
pub mod Good
pub mod AdoptedSteps
pub mod ShownRows
pub mod Keyed
pub mod Subjects
pub mod SeenVerdicts
pub mod Obeyed
pub mod Answers
pub mod Worklists
pub mod SeenShows
pub mod EachQuery
