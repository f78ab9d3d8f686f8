-- What the functions of this crate stand on, in reading order; what their callers learn from each answer; and that there is one.
mod OneValue
mod Taking
pub mod Answers
pub mod Once
