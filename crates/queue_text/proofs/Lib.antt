-- What the functions of this crate stand on: the digits of a number, and bits as characters; and one outcome to each promise.
mod Bitwise
mod Digits
pub mod Once
