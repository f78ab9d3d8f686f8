-- What is proved about the identifiers apart from any code, and one answer to each promise.
pub mod Choice
pub mod Once
