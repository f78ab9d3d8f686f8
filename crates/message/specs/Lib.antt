-- What the functions below `message` promise; what a reader must believe of `message` itself is in the crate group.
pub mod Passing
