-- Pieces of text and numbers in it, in reading order.
pub mod Pieces
pub mod Numbers
pub mod Examples
