-- How answers read, in reading order.
pub mod Texts
pub mod Examples
