-- Reading and writing refuse just as the rules say.
pub mod Radio
pub mod Sorts
pub mod Tables
pub mod Insides
pub mod FortyFour
pub mod Along
pub mod Dues
pub mod Judged
pub mod Ruled
pub mod Lengths
pub mod Lawfully
pub mod Media
pub mod Demand1
pub mod Accepted
pub mod Tried
