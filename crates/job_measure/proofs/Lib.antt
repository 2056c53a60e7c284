pub mod StepLaws
pub mod AllLaws
