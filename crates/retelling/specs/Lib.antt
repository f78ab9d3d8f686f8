-- What each promise of this crate cites.
pub mod Retold
