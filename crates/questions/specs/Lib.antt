-- Questions and the answers to them, in reading order.
pub mod Questions
pub mod Examples
