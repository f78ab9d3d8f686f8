-- One answer to the promise.
pub mod Causes
pub mod Back
pub mod Once
