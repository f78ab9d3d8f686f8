-- What is proved of the program's input.
pub mod Held
