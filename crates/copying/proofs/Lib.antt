-- A list with the front of another over it; that the promise has one outcome.
pub mod Pasted
pub mod Once
