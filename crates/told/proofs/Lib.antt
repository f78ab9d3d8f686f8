-- Packets told in metres, by their bits, in reading order.
pub mod Overwritten
pub mod ToldItems
pub mod ToldGroups
pub mod ToldLists
pub mod ToldPackets
pub mod ScaledInMetres
pub mod UserInMetres
pub mod ToldTelegrams
pub mod ByNumber
