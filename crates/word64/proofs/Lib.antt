-- The laws of words of 64 bits, and that each promise has one answer.
pub mod Words
pub mod Once
