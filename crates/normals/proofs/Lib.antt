-- What `renormalised` stands on, what the normaliser leaves, and that the promise determines it.
pub mod Forms
pub mod Left
pub mod Once
