-- The laws of bits: those of numbers and their digits, of bytes, of fields, and what the code's loops and windows stand on.
pub mod Digits
pub mod Bytes
pub mod Fields
pub mod Same
pub mod Once
pub mod Loops
pub mod Windows
pub mod Sight
pub mod Looked
pub mod Pairs
