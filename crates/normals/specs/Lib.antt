-- What normalising twice promises.
pub mod Normals
