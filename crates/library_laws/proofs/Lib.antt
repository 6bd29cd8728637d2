-- Read first: SameGraphs (where the library is read), then SameScopes (one scope and any depth). SameDue, SameForm, SameRuns, SameViews, SameRows, SameItems and SameEvents follow.
pub mod SameGraphs
pub mod SameScopes
pub mod SameDue
pub mod SameForm
pub mod SameRuns
pub mod SameViews
pub mod SameRows
pub mod SameItems
pub mod SameEvents
