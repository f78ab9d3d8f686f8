-- What the functions of this crate stand on: lines by their letter; and one outcome to each promise.
mod Letters
pub mod Once
