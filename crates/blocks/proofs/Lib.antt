-- What the functions of this crate stand on: parts of a line, and steps from line to line; and one outcome to each promise.
mod Parts
pub mod Stepping
pub mod Once
