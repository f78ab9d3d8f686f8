-- That each promise has one answer.
pub mod Once
