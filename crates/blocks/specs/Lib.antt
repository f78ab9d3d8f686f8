-- How lines are taken out of blocks, in reading order.
pub mod Ends
pub mod Reading
pub mod Examples
