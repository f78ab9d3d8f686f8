-- What is proved of what is printed for a sheet, in reading order.
pub mod Texts
pub mod Kept
pub mod Once
