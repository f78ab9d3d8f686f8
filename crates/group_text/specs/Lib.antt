-- How a group's answer reads, in reading order.
pub mod Texts
pub mod Examples
