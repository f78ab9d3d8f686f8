-- The worked telegrams, computed.
pub mod All
