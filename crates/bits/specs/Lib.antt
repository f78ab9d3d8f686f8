-- What a reader of this crate's promises must believe, in reading order.
pub mod Bits
pub mod Take
pub mod Ahead
pub mod Put
pub mod Examples
