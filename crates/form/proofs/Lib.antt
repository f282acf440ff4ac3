pub mod FormLaws
pub mod LayoutLaws
pub mod Border
pub mod Uniform
