-- What is proved about the definitions of docs/RULES.md, and that the promise of the code here is met by one answer alone (Once).
pub mod Rows
pub mod Rests
pub mod Heads
pub mod Numbers
pub mod Once
