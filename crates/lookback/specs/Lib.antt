-- What the promises of this crate cite.
pub mod Middle
