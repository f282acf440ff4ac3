pub mod Legends
pub mod CopyCodes
