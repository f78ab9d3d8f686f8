-- Which refusal each entry point gives, in reading order.
pub mod Entrances
pub mod Rows
pub mod Groups
