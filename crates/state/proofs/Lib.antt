pub mod Round
pub mod Sound
pub mod Fields
pub mod Fitting
