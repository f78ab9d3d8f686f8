-- A list by the tests that the code makes, and one answer to each promise.
pub mod Turns
pub mod Once
