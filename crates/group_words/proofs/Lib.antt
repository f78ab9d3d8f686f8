-- What the functions of this crate stand on: the words from a place on, telegrams that are counted, those that are put, and what is answered; what a
-- caller learns; that a long line is no group; and one outcome to the promise.
mod Walks
mod Counts
mod Puts
mod Answers
pub mod Callers
pub mod Shorts
pub mod Once
