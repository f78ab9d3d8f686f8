-- Data sheets, in reading order: what a sheet is, what a text is as one, and what export and import promise.
pub mod Replies
pub mod Rows
pub mod Reading
pub mod Sheets
pub mod Steps
pub mod Examples
