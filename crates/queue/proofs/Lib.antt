-- What the functions of this crate stand on: texts that join a queue one behind the other, and a piece put at once; and one outcome to each promise.
pub mod Joining
mod Bulk
pub mod Once
