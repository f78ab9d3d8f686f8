-- What a reader of this crate's promises must believe, in reading order.
pub mod Telegrams
pub mod Examples
