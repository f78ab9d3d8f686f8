-- Bodies by the tests that the code makes, and one answer to each promise.
pub mod Tests
pub mod Once
