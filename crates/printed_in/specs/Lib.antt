-- What is printed for a sheet.
pub mod Sheet
pub mod Examples
