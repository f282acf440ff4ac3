pub mod Feet
pub mod Distance
