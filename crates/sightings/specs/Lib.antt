-- What a reader of this crate's promises must believe.
pub mod Sightings
