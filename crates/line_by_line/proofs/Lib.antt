-- That a program which answers line by line writes the answers to all lines; and one outcome to the promise.
mod Splits
mod Spills
mod Steps
mod Outcomes
pub mod Whole
pub mod Once
