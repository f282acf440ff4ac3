pub mod SegmentLaws
pub mod LegendLaws
pub mod StoredLaws
pub mod ComposeLaws
pub mod TextLaws
pub mod CopyCodes
