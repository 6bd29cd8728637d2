-- Read Formats (what it means that a reader reads what was spelled, and how such readers are joined) first;
-- FieldFormats and KindFormats say it of each field and each kind, Loop of reading so many; Sizes says how long
-- a record may be.
pub mod Formats
pub mod FieldFormats
pub mod KindFormats
pub mod Loop
pub mod Sizes
pub mod Elementwise
