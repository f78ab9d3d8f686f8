-- The worked telegrams of docs/RULES.md.
pub mod Cases
