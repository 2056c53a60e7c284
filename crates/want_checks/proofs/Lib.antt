pub mod Corners
pub mod CheckLaws
pub mod OrderLaws
