-- Why the functions of this crate are right, and one answer to each promise.
pub mod Numbers
pub mod Same
pub mod Fronts
pub mod Once
