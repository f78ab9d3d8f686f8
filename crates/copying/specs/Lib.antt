-- What a copy leaves.
pub mod Copies
