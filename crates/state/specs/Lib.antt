pub mod State
pub mod Contents
pub mod Packed
pub mod Host
