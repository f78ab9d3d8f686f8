-- What the program reads of its input, and what it prints for it.
pub mod Input
pub mod Examples
