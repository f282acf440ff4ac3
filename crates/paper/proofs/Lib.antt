pub mod PaperLaws
mod Rounding
pub mod Distance
