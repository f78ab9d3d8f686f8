-- What a list in metres asks and puts, by what it is a list of.
pub mod Groups
