-- What check, read, write, label and normalise answer; and what the machine's state stands for, and each of its functions promises.
pub mod Reader
pub mod Machine
pub mod Lookback
pub mod Heads
pub mod Filling
pub mod Writer
pub mod Labels
pub mod Along
pub mod Normaliser
pub mod Examples
