-- What the functions of this crate stand on: numbers one behind the other; and one outcome to each promise.
mod Spaced
pub mod Once
