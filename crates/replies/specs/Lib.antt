-- What is answered to a question, in reading order.
pub mod Replies
pub mod Examples
