-- What the code of this crate stands on, and what its promises say; one answer to each.
pub mod Marks
pub mod Figures
pub mod Written
pub mod Splits
pub mod Once
