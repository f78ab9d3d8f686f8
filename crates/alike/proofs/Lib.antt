-- What `says_same` stands on, what its answer says, and that its promise determines it.
pub mod Numbers
pub mod Pairs
pub mod Says
pub mod Once
