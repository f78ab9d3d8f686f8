-- What the code stands on, and that its promises determine it.
pub mod Twice
pub mod Leaving
pub mod Once
