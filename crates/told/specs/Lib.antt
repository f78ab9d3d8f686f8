-- What is put into the bytes of a packet that is told in metres.
pub mod Metres
pub mod Decides
