-- The laws of packets that are passed whole, in reading order.
pub mod Passing
pub mod Stood
pub mod Filled
pub mod Sorts
pub mod Sweeping
