-- One outcome to each promise.
pub mod Once
