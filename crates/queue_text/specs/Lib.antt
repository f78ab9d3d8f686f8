-- The texts that are put, in reading order.
pub mod Texts
pub mod Examples
