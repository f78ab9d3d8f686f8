-- When each rule is broken, and which refusal is given, in reading order.
pub mod Broken
pub mod Given
