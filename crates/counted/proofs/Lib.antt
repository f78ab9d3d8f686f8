-- Packets that are counted whole keep their rules, and where all of them are in metres a copy is the normal form, in reading order.
pub mod Tests
pub mod Groups
pub mod Levels
pub mod Speeds
pub mod Listed
pub mod EachList
pub mod Bodies
pub mod Radios
pub mod Texts
pub mod EachKind
pub mod Spans
pub mod Copied
pub mod Patched
