-- Why a group's message is right, and one answer to each promise.
pub mod Tables
pub mod Hops
pub mod Gathering
pub mod Colliding
pub mod Placing
pub mod Answering
pub mod Once
