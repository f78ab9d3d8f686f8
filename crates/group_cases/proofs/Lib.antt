-- The worked groups, computed.
pub mod All
