-- The answer to a line, in reading order.
pub mod Lines
pub mod Examples
