-- What a reader of this crate's promise must believe.
pub mod GroupCodes
