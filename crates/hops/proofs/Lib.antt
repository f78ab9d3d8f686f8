-- The bounds of a group, the tests that the code makes of it, what the code has of it, and one answer to each promise.
pub mod Bounds
pub mod Tests
pub mod Kept
pub mod Once
