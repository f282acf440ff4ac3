pub mod MovementLaws
pub mod WalkLaws
