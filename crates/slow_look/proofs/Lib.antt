-- One answer to the promise.
pub mod Once
