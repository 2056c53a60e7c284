pub mod Corners
pub mod SpaceLaws
