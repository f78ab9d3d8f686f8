-- What is proved of lines, in reading order.
pub mod Lines
pub mod Refusals
pub mod Binary
pub mod Once
