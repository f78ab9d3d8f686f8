-- Values as text, in reading order.
pub mod Values
pub mod Examples
