-- Packets by the tests that the code makes, and one answer to the promise.
pub mod Tests
pub mod ByName
pub mod Once
