pub mod Corners
pub mod DealtLaws
pub mod CheckLaws
