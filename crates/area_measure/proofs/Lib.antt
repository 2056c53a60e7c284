pub mod MeasureLaws
pub mod ListLaws
pub mod LocalLaws
