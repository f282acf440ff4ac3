pub mod CopiesLaws
pub mod JudgeLaws
