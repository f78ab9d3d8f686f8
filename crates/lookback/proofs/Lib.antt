-- Windows and heads in them, and one answer to each promise.
pub mod Window
pub mod Looking
pub mod Once
