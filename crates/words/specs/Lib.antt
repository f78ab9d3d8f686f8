-- What a reader of this crate's promises must believe, in reading order.
pub mod Words
pub mod Examples
