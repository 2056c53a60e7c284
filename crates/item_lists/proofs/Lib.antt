pub mod Corners
pub mod TableLaws
