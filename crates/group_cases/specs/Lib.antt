-- The worked groups.
pub mod Cases
