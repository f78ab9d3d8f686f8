-- Lines that programs read and print, in reading order.
pub mod Lines
pub mod Characters
pub mod Examples
