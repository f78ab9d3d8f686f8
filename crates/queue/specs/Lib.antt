-- What waits, and a text put behind it, in reading order.
pub mod Waiting
pub mod Examples
