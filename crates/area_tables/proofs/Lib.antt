pub mod Corners
pub mod RowLaws
pub mod PartLaws
