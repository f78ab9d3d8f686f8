-- Why the functions of this crate are right, and one answer to each promise.
pub mod Finding
pub mod Once
