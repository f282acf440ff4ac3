pub mod Form
pub mod Pass
