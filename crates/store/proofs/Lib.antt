-- What the writing of short fields stands on; that each promise has one outcome.
pub mod Exchanged
pub mod Laid
pub mod Once
