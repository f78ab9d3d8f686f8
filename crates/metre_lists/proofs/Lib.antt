-- What the groups and loops of this crate go by, and that each promise has one outcome.
pub mod Reading
pub mod Listing
pub mod ByGroup
pub mod Once
