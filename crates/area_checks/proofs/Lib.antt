pub mod Corners
pub mod TouchLaws
pub mod CheckLaws
pub mod OrderLaws
