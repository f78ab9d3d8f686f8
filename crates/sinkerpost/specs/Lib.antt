-- What the functions for C answer.
pub mod Codes
pub mod Examples
