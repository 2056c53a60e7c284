pub mod Bounds
pub mod StepLaws
pub mod ReadyLaws
