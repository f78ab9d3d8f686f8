-- That the promises determine what the functions answer and leave.
pub mod Once
mod Outcomes
