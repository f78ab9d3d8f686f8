-- Every entry point refuses and accepts just as the rules say.
pub mod Lifted
pub mod Bytes
pub mod Calls
pub mod Places
pub mod Fronts
pub mod Sheets
pub mod Names
pub mod Rows
pub mod Replying
pub mod Judging
pub mod RoundTrips
pub mod Groups
pub mod Worked
