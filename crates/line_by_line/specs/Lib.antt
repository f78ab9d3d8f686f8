-- The answers to a whole input, and a program that gives them, in reading order.
pub mod Lines
pub mod Written
pub mod Running
pub mod Examples
