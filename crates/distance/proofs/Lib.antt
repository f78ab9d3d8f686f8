-- One answer to each promise.
pub mod Once
