-- What the types of telegrams say of them, and one answer to the promise.
pub mod Lines
pub mod Once
