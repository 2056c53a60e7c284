pub mod Bounds
pub mod UseLaws
pub mod MarkLaws
pub mod LeafLaws
pub mod ScanLaws
pub mod StepLaws
pub mod ReadyLaws
