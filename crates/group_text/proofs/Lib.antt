-- What the functions of this crate stand on: packets one behind the other; and one outcome to each promise.
mod Behind
pub mod Once
