-- What reading and writing one after the other promise.
pub mod Again
