-- What is proved of what is printed, in reading order.
pub mod Lines
pub mod Texts
pub mod Kept
pub mod Once
