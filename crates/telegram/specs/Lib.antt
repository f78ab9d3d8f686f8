-- What the check's two results are to what the definitions answer.
pub mod Finding
