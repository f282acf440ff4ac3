pub mod Layout
pub mod Worlds
pub mod Premises
