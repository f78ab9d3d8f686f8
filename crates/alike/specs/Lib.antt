-- What comparing two telegrams promises.
pub mod Pairs
