-- Steps of a scale and decimetres, and what a distance is in both.
pub mod Steps
pub mod Distance
