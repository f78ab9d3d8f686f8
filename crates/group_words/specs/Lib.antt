-- What a reader of this crate's promises must believe, in reading order.
pub mod Lines
pub mod Examples
