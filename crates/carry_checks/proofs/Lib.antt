pub mod CheckLaws
pub mod LayoutLaws
pub mod OrderLaws
pub mod Corners
