-- What the code of this crate stands on, and what its promises say; one outcome to each.
pub mod Hexes
pub mod Forms
pub mod Answers
pub mod Once
