-- What the functions of this crate stand on, that 16,401 characters of a line are enough, and one outcome to the promise.
mod Texts
pub mod Kept
pub mod Once
