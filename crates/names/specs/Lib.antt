-- The names of fields by number, in reading order.
pub mod Names
pub mod Examples
pub mod Scaled
