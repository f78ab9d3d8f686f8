-- Lists by the tests that the code makes, and one answer to each promise.
pub mod Apart
pub mod Once
