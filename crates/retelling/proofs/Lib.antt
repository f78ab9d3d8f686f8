-- What is put by numbers, packet by packet, and that the promise has one outcome.
pub mod ByNumber
pub mod Packets
pub mod Once
