-- What the functions of this crate stand on, that 831 characters of a line are enough, and one outcome to each promise.
pub mod Kept
mod Packs
pub mod Once
