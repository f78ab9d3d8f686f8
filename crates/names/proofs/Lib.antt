-- What is proved of names, in reading order.
pub mod Cut
pub mod Once
