-- What is proved of pieces and numbers, in reading order.
pub mod Starts
pub mod Decimals
pub mod Loops
pub mod Sixteens
pub mod Once
