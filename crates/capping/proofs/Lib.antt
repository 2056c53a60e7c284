pub mod Corners
pub mod CapLaws
pub mod OrderLaws
pub mod SeenLaws
