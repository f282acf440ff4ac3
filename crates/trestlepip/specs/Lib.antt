pub mod Host
pub mod Notes
pub mod Pages
