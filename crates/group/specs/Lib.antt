-- What a reader of this crate's promises must believe, in reading order; behind it what the functions below `message` promise.
pub mod Replies
pub mod Groups
pub mod Examples
pub mod Walks
