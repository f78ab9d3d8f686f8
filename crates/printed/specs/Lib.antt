-- What is printed for an input, in reading order.
pub mod Printed
pub mod Examples
