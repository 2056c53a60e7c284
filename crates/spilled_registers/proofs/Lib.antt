pub mod SpilledLaws
pub mod OrderLaws
pub mod Corners
