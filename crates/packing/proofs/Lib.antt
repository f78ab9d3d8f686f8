-- What the code of this crate stands on, and that its promises have one answer.
pub mod Lines
pub mod Characters
pub mod Answers
pub mod Once
